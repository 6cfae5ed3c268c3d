-- However inference names its variables, the lines that tell the types are the same.
-- For: `one_text`
use Rattle.std.proofs.Common.{◌≡◌, ℕ, suc, Bool, true, false, List, [], ◌∷◌, ◌++◌, refl, sym, ap, ◌∙◌, subst, inl, inr, ⊎_elim}
use Rattle.std.specs.Prelude.{◌⊎◌, if◌then◌else◌, codes}
use Rattle.ps_base.specs.Texts.{◌&◌}
use Rattle.ps_types.specs.Writing.{Text, type_text}
use Rattle.ps_kernel.specs.declared.kernel.Definition.{Definition}
use Rattle.ps_kernel.specs.declared.kernel.Kernel.{Kernel}
use Rattle.ps_kernel.specs.declared.survivors.Survivors.{Survivors}
use Rattle.ps_kernel.specs.Lists.{stands_in, Among}
use Rattle.ps_kernel.proofs.NumbersStandInLists.{in_append}
use Rattle.ps_typing.specs.Lines.{name_of, definition_line, lines_from}
use Rattle.ps_typing.specs.Order.{Graph, ordered, IsOrder}
use Rattle.ps_typing.specs.Rules.{Typing}
use Rattle.ps_typing.specs.Texts.{survives, graph_of}
use Rattle.ps_typing.specs.Typings.{IsPrincipal, IsTyped}
use Rattle.ps_typing.specs.Laws.{OneText}
use Rattle.ps_typing.proofs.GroupsAreKept.{definitions_stay}
use Rattle.ps_typing.proofs.GroupsHaveOneOrder.{one_order}
use Rattle.ps_typing.proofs.RenamedTypesHaveOneText.{same_text}

-- each node stands in a group
pub record HasGroup (groups : List (List ℕ)) (d : ℕ) : Type 0 where
  pub group : List ℕ
  pub listed : Among group groups
  pub stands : stands_in d group ≡ true

group_in : (g : Graph) (listed : List ℕ) (groups : List (List ℕ)) → ordered g listed groups → (d : ℕ) → g.is_node d ≡ true → (stands_in d listed ≡ true) ⊎ HasGroup groups d
group_in g listed [] h d on = inl (h d on)
group_in g listed (group ∷ groups) h d on = ⊎_elim
    (λ (a : stands_in d (group ++ listed) ≡ true). ⊎_elim
    (λ (b : stands_in d group ≡ true). inr (record { group = group; listed = inl refl; stands = b }))
    (λ (b : stands_in d listed ≡ true). inl b)
    (in_append d group listed a))
    (λ (a : HasGroup groups d). inr (record { group = a.group; listed = inr a.listed; stands = a.stands }))
    (group_in g (group ++ listed) groups h.1 d on)

pub group_of_node : (g : Graph) (groups : List (List ℕ)) → IsOrder g groups → (d : ℕ) → g.is_node d ≡ true → HasGroup groups d
group_of_node g groups h d on = ⊎_elim (λ (a : stands_in d [] ≡ true). absurd cc) (λ (a : HasGroup groups d). a) (group_in g [] groups h.order d on)

module _ (k : Kernel) (s : Survivors) (names : List Text) (T P : Typing) (a : IsTyped k s T) (b : IsTyped k s P) where
  same_groups : a.groups ≡ b.groups
  same_groups = one_order (graph_of k s) a.groups b.groups a.order b.order

  -- the type of a definition is that of the principal typing
  of_principal : (U : Typing) (c : IsTyped k s U) (d : ℕ) → survives k s d ≡ true → U.definition d ≡ c.typing.definition d
  of_principal U c d on =
      let g = group_of_node (graph_of k s) c.groups c.order d on in
      (c.settled.each g.group g.listed).definitions d g.stands ∙ definitions_stay c.typing g.group d g.stands

  same_principals : IsPrincipal k s a.groups b.typing
  same_principals = subst (λ g. IsPrincipal k s g b.typing) (sym same_groups) b.principal

  same_type : (d : ℕ) → survives k s d ≡ true → type_text k.kinds names (T.definition d) ≡ type_text k.kinds names (P.definition d)
  same_type d on =
      let g = group_of_node (graph_of k s) a.groups a.order d on in
      let there = a.principal.principal b.typing same_principals.typing g.group g.listed in
      let back = same_principals.principal a.typing a.principal.typing g.group g.listed in
      ap (type_text k.kinds names) (of_principal T a d on)
      ∙ same_text k.kinds names (a.typing.definition d) (b.typing.definition d) there.by back.by (there.at.definitions d g.stands) (back.at.definitions d g.stands)
      ∙ ap (type_text k.kinds names) (sym (of_principal P b d on))

  same_lines : (d : ℕ) (xs : List Definition) → lines_from k s names T d xs ≡ lines_from k s names P d xs
  same_lines d [] = refl
  same_lines d (x ∷ xs) = go (survives k s d) refl (same_lines (suc d) xs)
    where
      go : (on : Bool) → survives k s d ≡ on → lines_from k s names T (suc d) xs ≡ lines_from k s names P (suc d) xs
          → (if on then definition_line k.kinds names x (T.definition d) & lines_from k s names T (suc d) xs else lines_from k s names T (suc d) xs)
          ≡ (if on then definition_line k.kinds names x (P.definition d) & lines_from k s names P (suc d) xs else lines_from k s names P (suc d) xs)
      go true is e =
          ap (λ (z : Text). (name_of names x.structure.0 & codes "/" & name_of names x.name.0 & codes " : " & z & codes "\n") & lines_from k s names T (suc d) xs) (same_type d is)
          ∙ ap (λ (z : Text). definition_line k.kinds names x (P.definition d) & z) e
      go false is e = e

pub one_text : OneText
one_text k s names T P a b = same_lines k s names T P a b 0 k.definitions

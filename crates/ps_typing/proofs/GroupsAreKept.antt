-- A group that has a typing has each instance of it that is not too large, and the one with integer for what nothing fixes.
-- For: `groups_are_kept` and `settled_is_typing`
use Rattle.std.proofs.Common.{◌≡◌, ℕ, ◌+◌, Bool, true, false, List, [], ◌∷◌, ◌++◌, map, Option, Some, None, refl, sym, ap, ◌∙◌, subst, arith}
use Rattle.std.specs.Prelude.{◌==◌, ◌||◌, if◌then◌else◌}
use Rattle.std.proofs.Common.{inl, inr, ⊎_elim}
use Rattle.std.proofs.lemmas.Bool.{eqb-true}
use Rattle.ps_types.specs.declared.types.Ty.{Ty, Ty-F, map-Ty}
use Rattle.ps_types.specs.declared.types.Ty.TheVariants as ty
use Rattle.ps_types.specs.Substitutions.{Substitution, apply, applied, mentions, some_mentions, total, size, size_node}
use Rattle.ps_types.proofs.TypesAreTerms.{every, parts, by_parts, apply_at, size_at}
use Rattle.ps_types.proofs.SubstitutionsCompose.{same_on, unchanged}
use Rattle.ps_kernel.specs.declared.kernel.Kernel.{Kernel}
use Rattle.ps_kernel.specs.declared.survivors.Kept.{Kept}
use Rattle.ps_kernel.specs.declared.survivors.Survivors.{Survivors}
use Rattle.ps_kernel.specs.Lists.{stands_in, Each, Among}
use Rattle.ps_kernel.proofs.NumbersStandInLists.{or_cases, or_left, or_right, in_append}
use Rattle.ps_typing.specs.Data.{IsSmall, IsData}
use Rattle.ps_typing.specs.Rules.{Typing, Text, IsLambda, types}
use Rattle.ps_typing.specs.Texts.{lambda_at, value_at, lambdas_in, lambdas_of, of_lambda, text_of}
use Rattle.ps_typing.specs.Typings.{MentionsFrom, IsBody, defined, IsDefined, IsGroup, earlier_than, groups_typed, IsAt, settling}
use Rattle.ps_typing.specs.Laws.{AreGeneral, IsSmallIn, GroupsAreKept, SettledIsTyping}
use Rattle.ps_typing.proofs.DataHasOneType.{data_stays}
use Rattle.ps_typing.proofs.RulesAreKept.{kept, lambda_at as lambda_kept, mentions_at}
use Rattle.ps_typing.proofs.TextsOfGroups.{in_flat, of_flat, each_from, each_at}
use Rattle.ps_typing.proofs.TypesAtConstructors.{at_integer, at_proc}

-- ---- one group

module _ (k : Kernel) (s : Survivors) (earlier : ℕ → Bool) (ds : List ℕ) (σ : Substitution) (P T : Typing)
    (same : IsAt (text_of k s ds) σ P T) (general : AreGeneral earlier P T) (small : IsSmallIn (text_of k s ds) T) where
  abbrev text : Text
  text = text_of k s ds

  mention_kept : (d : ℕ) (u : Ty) → MentionsFrom earlier text P d u → MentionsFrom earlier text T d (apply σ u)
  mention_kept d u m = record { is = mentions_at (text.definitions d) (earlier d) σ (P.definition d) (T.definition d) u (general.each d) (same.definitions d) m.is }

  body_kept : (l : ℕ) → text.lambdas l ≡ true → IsBody k s text earlier P l → IsBody k s text earlier T l
  body_kept l on b = record {
    lambda = b.lambda;
    there = b.there;
    body = record {
      typing =
          let h = kept k s.blocks text σ P T same.locals same.results (MentionsFrom earlier text P) (MentionsFrom earlier text T) mention_kept b.lambda.body (P.result l) (P.nodes l) b.body.typing in
          subst (λ u. types k s.blocks text T (MentionsFrom earlier text T) b.lambda.body u (T.nodes l)) (sym (same.results l on))
          (subst (types k s.blocks text T (MentionsFrom earlier text T) b.lambda.body (apply σ (P.result l))) (sym (same.nodes l on)) h);
    };
    small = small.nodes l on;
  }

  definition_kept : (d : ℕ) → stands_in d ds ≡ true → (o : Option ℕ) (v : Option Kept) → lambda_at d s.procedures ≡ o → defined k s text earlier P d o v → defined k s text earlier T d o v
  definition_kept d on (Some l) v is h = record {
    type = subst (IsLambda k text T l) (sym (same.definitions d on))
        (lambda_kept k s.blocks text σ P T same.locals same.results (MentionsFrom earlier text P) (MentionsFrom earlier text T) mention_kept l (P.definition d) h.type);
    bodies = each_from (IsBody k s text earlier T) (lambdas_in k l)
        (λ m inside. body_kept m
        (in_flat (lambdas_of k s) ds d m on (subst (λ q. stands_in m (of_lambda k (lambdas_in k) q) ≡ true) (sym is) inside))
        (each_at (IsBody k s text earlier P) (lambdas_in k l) h.bodies m inside));
  }
  definition_kept d on None (Some v) is h = subst (IsData k.kinds s.blocks v) (sym (same.definitions d on ∙ data_stays k.kinds s.blocks v (P.definition d) h σ)) h
  definition_kept d on None None is h = h

  group_member : (d : ℕ) → stands_in d ds ≡ true → IsDefined k s text earlier P d → IsDefined k s text earlier T d
  group_member d on h = record {
    is = definition_kept d on (lambda_at d s.procedures) (value_at d s.globals) refl h.is;
    small = small.definitions d on;
    main = λ e. same.definitions d on ∙ ap (apply σ) (h.main e) ∙ at_proc σ [] ty.Integer ∙ ap (ty.Proc []) (at_integer σ);
  }

  pub group_kept : IsGroup k s earlier ds P → IsGroup k s earlier ds T
  group_kept h = record { each = each_from (IsDefined k s text earlier T) ds (λ d on. group_member d on (each_at (IsDefined k s text earlier P) ds h.each d on)) }

pub groups_are_kept : GroupsAreKept
groups_are_kept k s earlier ds σ P T same general small h = group_kept k s earlier ds σ P T same general small h

-- ---- sizes where each variable becomes something as small

module _ (σ : Substitution) (ones : (x : ℕ) → size (σ x) ≡ 1) where
  abbrev SameSize : Ty → Type 0
  SameSize t = size (apply σ t) ≡ size t

  sizes : (ts : List Ty) → every SameSize ts → total (map size (map (apply σ) ts)) ≡ total (map size ts)
  sizes [] h = refl
  sizes (t ∷ ts) h = omega (arith, h.0, sizes ts h.1)

  size_node_at : (y : Ty-F Ty) → parts SameSize y → size (applied σ (map-Ty Ty Ty (apply σ) y)) ≡ size_node (map-Ty Ty ℕ size y)
  size_node_at Ty-F.Integer h = size_at Ty-F.Integer
  size_node_at Ty-F.Boolean h = size_at Ty-F.Boolean
  size_node_at Ty-F.Char h = size_at Ty-F.Char
  size_node_at Ty-F.Unit h = size_at Ty-F.Unit
  size_node_at Ty-F.Address h = size_at Ty-F.Address
  size_node_at Ty-F.Text h = size_at Ty-F.Text
  size_node_at (Ty-F.Vector a) h = size_at (Ty-F.Vector (apply σ a)) ∙ ap (λ n. 1 + n) h
  size_node_at (Ty-F.Tuple k) h = size_at (Ty-F.Tuple k)
  size_node_at (Ty-F.Proc ts r) h = size_at (Ty-F.Proc (map (apply σ) ts) (apply σ r)) ∙ omega (arith, sizes ts h.0, h.1)
  size_node_at (Ty-F.Var x) h = ones x

  pub same_size : (t : Ty) → SameSize t
  same_size = by_parts SameSize (λ y h. ap size (apply_at σ y) ∙ size_node_at y h ∙ sym (size_at y))

  pub all_small : (ts : List Ty) → Each IsSmall ts → Each IsSmall (map (apply σ) ts)
  all_small [] h = tt
  all_small (t ∷ ts) h = (record { small = omega (arith, h.0.small, same_size t) }, all_small ts h.1)

-- ---- what nothing fixes

one_each : (P : Typing) (ds : List ℕ) (x : ℕ) → size (settling P ds x) ≡ 1
one_each P ds x = go (some_mentions x (map P.definition ds))
  where
    go : (b : Bool) → size (if b then ty.Var x else ty.Integer) ≡ 1
    go true = ap size (sym (ty.rolls-Var x)) ∙ size_at (Ty-F.Var x)
    go false = ap size (sym ty.rolls-Integer) ∙ size_at Ty-F.Integer

left_of : (a b : Bool) → a ≡ true → (a || b) ≡ true
left_of a b h = or_left a b h

mentioned_there : (P : Typing) (ds : List ℕ) (d x : ℕ) → stands_in d ds ≡ true → mentions x (P.definition d) ≡ true → some_mentions x (map P.definition ds) ≡ true
mentioned_there P [] d x on m = absurd cc
mentioned_there P (e ∷ ds) d x on m = ⊎_elim
    (λ (a : (d == e) ≡ true). left_of (mentions x (P.definition e)) (some_mentions x (map P.definition ds)) (subst (λ z. mentions x (P.definition z) ≡ true) (eqb-true d e a) m))
    (λ (b : stands_in d ds ≡ true). or_right (mentions x (P.definition e)) (some_mentions x (map P.definition ds)) (mentioned_there P ds d x b m))
    (or_cases (d == e) (stands_in d ds) on)

-- the types of definitions stay
pub definitions_stay : (P : Typing) (ds : List ℕ) (d : ℕ) → stands_in d ds ≡ true → apply (settling P ds) (P.definition d) ≡ P.definition d
definitions_stay P ds d on =
    same_on (settling P ds) ty.Var (P.definition d) (λ x m. ap (λ b. if b then ty.Var x else ty.Integer) (mentioned_there P ds d x on m)) ∙ unchanged (P.definition d)

module _ (k : Kernel) (s : Survivors) (P T : Typing) where
  -- the definitions that are listed have the same types in both
  abbrev Same : List ℕ → Type 0
  Same listed = (d : ℕ) → stands_in d listed ≡ true → T.definition d ≡ P.definition d

  body_in : (ds : List ℕ) (earlier : ℕ → Bool) → IsGroup k s earlier ds P → (l : ℕ) → (text_of k s ds).lambdas l ≡ true → IsBody k s (text_of k s ds) earlier P l
  body_in ds earlier h l on =
      let d = of_flat (lambdas_of k s) ds l on in
      let defines = each_at (IsDefined k s (text_of k s ds) earlier P) ds h.each d.member d.stands in
      go d.member (lambda_at d.member s.procedures) (value_at d.member s.globals) d.gives defines.is
    where
      go : (d : ℕ) (o : Option ℕ) (v : Option Kept) → stands_in l (of_lambda k (lambdas_in k) o) ≡ true → defined k s (text_of k s ds) earlier P d o v → IsBody k s (text_of k s ds) earlier P l
      go d (Some m) v inside q = each_at (IsBody k s (text_of k s ds) earlier P) (lambdas_in k m) q.bodies l inside
      go d None v inside q = absurd cc

  settled_group : (listed ds : List ℕ) → Same listed → IsAt (text_of k s ds) (settling P ds) P T → IsGroup k s (earlier_than listed) ds P → IsGroup k s (earlier_than listed) ds T
  settled_group listed ds known at h = group_kept k s (earlier_than listed) ds (settling P ds) P T at
      (record { each = λ d on. record { by = ty.Var; instance = sym (known d on) ∙ sym (unchanged (T.definition d)) } })
      (record {
        nodes = λ l on. subst (Each IsSmall) (sym (at.nodes l on)) (all_small (settling P ds) (one_each P ds) (P.nodes l) (body_in ds (earlier_than listed) h l on).small);
        definitions = λ d on. subst IsSmall (sym (at.definitions d on ∙ definitions_stay P ds d on)) (each_at (IsDefined k s (text_of k s ds) (earlier_than listed) P) ds h.each d on).small;
      }) h

  settled_groups : (listed : List ℕ) (gs : List (List ℕ)) → Same listed → ((ds : List ℕ) → Among ds gs → IsAt (text_of k s ds) (settling P ds) P T) → groups_typed k s listed gs P → groups_typed k s listed gs T
  settled_groups listed [] known at h = tt
  settled_groups listed (ds ∷ gs) known at h =
      let here = at ds (inl refl) in (
        settled_group listed ds known here h.0,
        settled_groups (ds ++ listed) gs
            (λ d on. ⊎_elim (λ (a : stands_in d ds ≡ true). here.definitions d a ∙ definitions_stay P ds d a) (λ (b : stands_in d listed ≡ true). known d b) (in_append d ds listed on))
            (λ es among. at es (inr among)) h.1,
      )

pub settled_is_typing : SettledIsTyping
settled_is_typing k s groups P T h at = record { each = settled_groups k s P T [] groups (λ d on. absurd cc) at.each h.each }

-- What survives has a typing or fails at one definition.
-- For: `one_fault` and `typed_is_no_fault`
use Rattle.std.proofs.Common.{◌≡◌, ℕ, List, [], ◌∷◌, ◌++◌, sym, ap, ◌∙◌, subst, inl, inr, ⊎_elim}
use Rattle.std.specs.Prelude.{◌⊎◌}
use Rattle.ps_kernel.specs.declared.kernel.Kernel.{Kernel}
use Rattle.ps_kernel.specs.declared.survivors.Survivors.{Survivors}
use Rattle.ps_typing.specs.Rules.{Typing}
use Rattle.ps_typing.specs.Texts.{graph_of}
use Rattle.ps_typing.specs.Typings.{groups_typed, IsTyping}
use Rattle.ps_typing.specs.Laws.{OneFault, TypedIsNoFault}
use Rattle.ps_typing.proofs.GroupsHaveOneOrder.{one_order}

-- one list goes on behind a member where another does
pub record GoesOn {A : Type 0} (xs : List A) (x : A) (whole : List A) : Type 0 where
  pub more : List A
  pub is : whole ≡ xs ++ x ∷ more

-- Two lists that are cut at a member each: at the same, or one before the other.
abbrev pub Cuts : {A : Type 0} → List A → A → List A → A → Type 0
Cuts a x b y = (x ≡ y) ⊎ (GoesOn a x b ⊎ GoesOn b y a)

head_of : {A : Type 0} (x y : A) (xs ys : List A) → x ∷ xs ≡ y ∷ ys → x ≡ y
head_of x y xs ys e = cc

tail_of : {A : Type 0} (x y : A) (xs ys : List A) → x ∷ xs ≡ y ∷ ys → xs ≡ ys
tail_of x y xs ys e = cc

pub cut : {A : Type 0} (a b : List A) (x y : A) (c d : List A) → a ++ x ∷ c ≡ b ++ y ∷ d → Cuts a x b y
cut [] [] x y c d e = inl (head_of x y c d e)
cut [] (z ∷ b) x y c d e = inr (inl (record { more = b; is = ap (λ w. w ∷ b) (sym (head_of x z c (b ++ y ∷ d) e)) }))
cut (z ∷ a) [] x y c d e = inr (inr (record { more = a; is = ap (λ w. w ∷ a) (head_of z y (a ++ x ∷ c) d e) }))
cut (z ∷ a) (w ∷ b) x y c d e =
    let same = head_of z w (a ++ x ∷ c) (b ++ y ∷ d) e in
    ⊎_elim
    (λ (p : x ≡ y). inl p)
    (λ (p : GoesOn a x b ⊎ GoesOn b y a). ⊎_elim
    (λ (q : GoesOn a x b). inr (inl (record { more = q.more; is = ap (λ v. v ∷ b) (sym same) ∙ ap (λ vs. z ∷ vs) q.is })))
    (λ (q : GoesOn b y a). inr (inr (record { more = q.more; is = ap (λ v. v ∷ a) same ∙ ap (λ vs. w ∷ vs) q.is })))
    p)
    (cut a b x y c d (tail_of z w (a ++ x ∷ c) (b ++ y ∷ d) e))

module _ (k : Kernel) (s : Survivors) (T : Typing) where
  -- a typing of groups types those in front
  front_typed : (listed : List ℕ) (a : List (List ℕ)) (x : List ℕ) (more : List (List ℕ)) → groups_typed k s listed (a ++ x ∷ more) T → groups_typed k s listed (a ++ x ∷ []) T
  front_typed listed [] x more h = (h.0, tt)
  front_typed listed (y ∷ a) x more h = (h.0, front_typed (y ++ listed) a x more h.1)

  pub types_front : (a : List (List ℕ)) (x : List ℕ) (whole : List (List ℕ)) → GoesOn a x whole → IsTyping k s whole T → IsTyping k s (a ++ x ∷ []) T
  types_front a x whole g h = record { each = front_typed [] a x g.more (subst (λ w. groups_typed k s [] w T) g.is h.each) }

pub one_fault : OneFault
one_fault k s d e f g =
    let whole = one_order (graph_of k s) (f.before ++ (d ∷ f.others) ∷ f.after) (g.before ++ (e ∷ g.others) ∷ g.after) f.order g.order in
    ⊎_elim
    (λ (p : d ∷ f.others ≡ e ∷ g.others). head_of d e f.others g.others p)
    (λ (p : GoesOn f.before (d ∷ f.others) g.before ⊎ GoesOn g.before (e ∷ g.others) f.before). ⊎_elim
    (λ (q : GoesOn f.before (d ∷ f.others) g.before). absurd (f.none g.typing (types_front k s g.typing f.before (d ∷ f.others) g.before q g.typed)))
    (λ (q : GoesOn g.before (e ∷ g.others) f.before). absurd (g.none f.typing (types_front k s f.typing g.before (e ∷ g.others) f.before q f.typed)))
    p)
    (cut f.before g.before (d ∷ f.others) (e ∷ g.others) f.after g.after whole)

pub typed_is_no_fault : TypedIsNoFault
typed_is_no_fault k s T d t f =
    let whole = one_order (graph_of k s) t.groups (f.before ++ (d ∷ f.others) ∷ f.after) t.order f.order in
    f.none t.typing (types_front k s t.typing f.before (d ∷ f.others) t.groups (record { more = f.after; is = whole }) t.principal.typing)

-- Where the definition of `main` stands among definitions, it is the only one, so that their order as a program is one.
-- For: `data_have_one_program` and `program_is_valid`
use Rattle.std.proofs.Common.{◌≡◌, ℕ, suc, List, [], ◌∷◌, ◌++◌, Some, sym, ap, ◌∙◌, subst}
use Rattle.std.specs.Prelude.{slice_get, codes}
use Rattle.std.specs.List.{AllByRecursion}
use Rattle.ps_base.specs.Names.{AreDistinct}
use Rattle.ps_datum.specs.declared.datum.Datum.{Datum}
use Rattle.ps_plain.specs.Forms.{Head, part, heads_of, names_in, main_head}
use Rattle.ps_plain.proofs.Lists.{joined}

module _ (names : List (List ℕ)) where
  abbrev IsOther : Datum → Type 0
  IsOther d = (part names d).head ≡ Some main_head → ⊥

  -- where no head is named `main`, no datum defines it
  others_by : (ds : List Datum) (hs : List Head) → heads_of names ds ≡ Some hs → ((i : ℕ) → slice_get (names_in hs) i ≡ Some (codes "main") → ⊥) → AllByRecursion IsOther ds
  others_by [] hs are new = tt
  others_by (d ∷ ds) hs are new =
      let parts = joined ((part names d).head) (heads_of names ds) hs are in
      let later = subst (λ (x : List Head). (i : ℕ) → slice_get (names_in x) i ≡ Some (codes "main") → ⊥) parts.is new in
      (λ is. let same : parts.first ≡ main_head = cc in later 0 (ap (λ (h : Head). Some h.name) same), others_by ds parts.rest parts.is_rest (λ i is. later (suc i) is))

  -- beside a first definition of `main` there is no other, where the names are distinct
  others : (m : Datum) (ds : List Datum) (hs : List Head) → (part names m).head ≡ Some main_head → heads_of names (m ∷ ds) ≡ Some hs → AreDistinct (names_in hs) → AllByRecursion IsOther ds
  others m ds hs is are distinct =
      let parts = joined ((part names m).head) (heads_of names ds) hs are in
      let named = subst (λ (x : List Head). AreDistinct (names_in x)) parts.is distinct in
      let same : parts.first ≡ main_head = cc in
      others_by ds parts.rest parts.is_rest (λ i at. let clash : suc i ≡ 0 = named (suc i) 0 (codes "main") at (ap (λ (h : Head). Some h.name) same) in cc)

  -- a datum in the midst of others is one of them
  in_midst : (xs : List Datum) (m : Datum) (ys : List Datum) → AllByRecursion IsOther (xs ++ m ∷ ys) → IsOther m
  in_midst [] m ys all = all.0
  in_midst (x ∷ xs) m ys all = in_midst xs m ys all.1

  same_by : (b a b' a' : List Datum) (m m' : Datum) → b ++ m ∷ a ≡ b' ++ m' ∷ a' → (part names m').head ≡ Some main_head → AllByRecursion IsOther (b ++ a) → m ∷ (b ++ a) ≡ m' ∷ (b' ++ a')
  same_by [] a [] a' m m' e is all = e
  same_by [] a (y ∷ b') a' m m' e is all = let rest : a ≡ b' ++ m' ∷ a' = cc in absurd (in_midst b' m' a' (subst (AllByRecursion IsOther) rest all) is)
  same_by (x ∷ b) a [] a' m m' e is all = let same : m' ≡ x = cc in absurd (all.0 (subst (λ (d : Datum). (part names d).head ≡ Some main_head) same is))
  same_by (x ∷ b) a (y ∷ b') a' m m' e is all =
      let first : x ≡ y = cc in
      let rest = same_by b a b' a' m m' (cc) is all.1 in
      cc

  -- whichever definition of `main` is taken out of its place, the order is the same
  pub same_order : (ds b a b' a' : List Datum) (m m' : Datum) (hs : List Head) → ds ≡ b ++ m ∷ a → ds ≡ b' ++ m' ∷ a' → (part names m).head ≡ Some main_head → (part names m').head ≡ Some main_head → heads_of names (m ∷ (b ++ a)) ≡ Some hs → AreDistinct (names_in hs) → m ∷ (b ++ a) ≡ m' ∷ (b' ++ a')
  same_order ds b a b' a' m m' hs form form' is is' are distinct = same_by b a b' a' m m' (sym form ∙ form') is' (others m (b ++ a) hs is are distinct)

-- The table of names after a name was added.
-- For: resolve
use Rattle.std.proofs.Common.{◌≡◌, ℕ, zero, suc, List, [], ◌∷◌, length, refl, sym, ap, ◌∙◌, subst, ⊎_elim}
use Rattle.std.specs.Prelude.{Option, Some, None, codes, slice_get, if◌then◌else◌}
use Rattle.std.specs.Option.{option_map}
use Rattle.std.specs.Str.{bytes_eq}
use Rattle.std.proofs.lemmas.Slice.Eq.{bytes_eq-Decides}
use Rattle.ps_base.specs.Names.{AreDistinct, IsNew, Adds, number_of}
use Rattle.ps_base.specs.declared.names.Name.{Name}
use Rattle.ps_datum.specs.declared.datum.DatumKind.TheVariants as k
use Rattle.ps_read.specs.declared.token.Front.TheVariants.{Whole, Named, Quoted}
use Rattle.ps_read.specs.declared.token.Word.TheVariants as w
use Rattle.ps_read.specs.Lexical.{Table, number_or, number_in, added_by, added, resolved, noted}
use Rattle.ps_base.proofs.Choices.{true_or_false}

later : (o : Option ℕ) (n : ℕ) → option_map suc o ≡ Some n → (m : ℕ) × (n ≡ suc m) × (o ≡ Some m)
later None n h = cc
later (Some m) n h = (m, cc, refl)

-- what has a number stands there
pub stands : (names : Table) (text : List ℕ) (n : ℕ) → number_of names text ≡ Some n → slice_get names n ≡ Some text
stands [] text n h = cc
stands (t ∷ names) text n h =
    ⊎_elim
    (λ yes.
    let first : Some 0 ≡ Some n = sym (ap (λ b. if b then Some 0 else option_map suc (number_of names text)) yes) ∙ h in
    let zero_is : 0 ≡ n = cc in
    let same : text ≡ t = (bytes_eq-Decides text t).0 yes in
    subst (λ i. slice_get (t ∷ names) i ≡ Some text) zero_is (ap (λ x. Some x) (sym same)))
    (λ other.
    let l = later (number_of names text) n (sym (ap (λ b. if b then Some 0 else option_map suc (number_of names text)) other) ∙ h) in
    subst (λ i. slice_get (t ∷ names) i ≡ Some text) (sym l.1) (stands names text l.0 l.2))
    (true_or_false (bytes_eq text t))

behind : (t : List ℕ) (names : Table) (text : List ℕ) → ((m : ℕ) × (number_of names text ≡ Some m)) → (m : ℕ) × (number_of (t ∷ names) text ≡ Some m)
behind t names text r =
    ⊎_elim
    (λ yes. (0, ap (λ b. if b then Some 0 else option_map suc (number_of names text)) yes))
    (λ other. (suc r.0, ap (λ b. if b then Some 0 else option_map suc (number_of names text)) other ∙ ap (option_map suc) r.1))
    (true_or_false (bytes_eq text t))

-- what stands somewhere has a number
numbered : (names : Table) (text : List ℕ) (n : ℕ) → slice_get names n ≡ Some text → (m : ℕ) × (number_of names text ≡ Some m)
numbered [] text zero h = cc
numbered [] text (suc n) h = cc
numbered (t ∷ names) text zero h =
    let same : text ≡ t = cc in
    (0, ap (λ b. if b then Some 0 else option_map suc (number_of names text)) ((bytes_eq-Decides text t).1 same))
numbered (t ∷ names) text (suc n) h = behind t names text (numbered names text n h)

absent : (names : Table) (text : List ℕ) → IsNew names text → (o : Option ℕ) → number_of names text ≡ o → o ≡ None
absent names text new None e = refl
absent names text new (Some n) e = absurd (new n (stands names text n e))

-- the name's number, and the table with it, are those of the definition
pub adds_as : (old new : Table) (text : List ℕ) (n : ℕ) → Adds old new text n → AreDistinct new → (n ≡ number_in old text) × (new ≡ added old text)
adds_as old new text n adds distinct =
    ⊎_elim
    (λ same.
    let at : slice_get old n ≡ Some text = subst (λ (t : Table). slice_get t n ≡ Some text) same adds.stands in
    let m = numbered old text n at in
    let there : slice_get new m.0 ≡ Some text = subst (λ (t : Table). slice_get t m.0 ≡ Some text) (sym same) (stands old text m.0 m.1) in
    let one : n ≡ m.0 = distinct n m.0 text adds.stands there in
    (one ∙ sym (ap (number_or (length old)) m.1), same ∙ sym (ap (added_by old text) m.1)))
    (λ grown.
    let none : number_of old text ≡ None = absent old text grown.2 (number_of old text) refl in
    (grown.1 ∙ sym (ap (number_or (length old)) none), grown.0 ∙ sym (ap (added_by old text) none)))
    adds.grown

module _ (names new : Table) (name : Name) where
  pub named : (len : ℕ) (text : List ℕ) → Adds names new text name.0 → AreDistinct new → (Whole len (w.Atom (k.Symbol name)) ≡ resolved names (Named len text)) × (new ≡ noted names (Named len text))
  unfolding resolved noted
  named len text adds distinct =
      let r = adds_as names new text name.0 adds distinct in
      (ap (λ (n : ℕ). Whole len (w.Atom (k.Symbol (record { 0 = n })))) r.0, r.1)

  pub quote_named : Adds names new (codes "quote") name.0 → AreDistinct new → (Whole 1 (w.Quote name) ≡ resolved names Quoted) × (new ≡ noted names Quoted)
  unfolding resolved noted
  quote_named adds distinct =
      let r = adds_as names new (codes "quote") name.0 adds distinct in
      (ap (λ (n : ℕ). Whole 1 (w.Quote (record { 0 = n }))) r.0, r.1)

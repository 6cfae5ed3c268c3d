use Rattle.std.proofs.Common.{◌≡◌, ℕ, ◌<◌, List, [], ◌∷◌, ◌++◌, map, length, Some, ap, sym, ◌∙◌, refl, inl, inr, false, OnErr, Result, Ok, Err, Vec, Global, arith, subst, length-append}
use Rattle.std.specs.Prelude.{if◌then◌else◌}
use Rattle.std.specs.List.{list_any}
use Rattle.std.specs.Option.{option_map}
use Rattle.std.specs.Str.{bytes_eq}
use Rattle.std.proofs.lemmas.Slice.Eq.{bytes_eq-Decides}
use Rattle.std.proofs.lemmas.Option.{slice_get-map}
use Rattle.std.proofs.lemmas.List.{map-append, length-map}
use Rattle.ps_base.specs.Names.{AreDistinct, IsNew}
use Rattle.ps_base.proofs.Tables.{find-passes, none-passes, none-new, distinct-more}
use Rattle.ps_base.proofs.names.Names.add.Goals as goal

bytes : Vec ℕ Global → List ℕ
bytes v = v.items

pub returns-in-Some-clause-ok : goal.returns-in-Some-clause-ok
unfolding bytes
returns-in-Some-clause-ok c =
    let keys = c.self.inside.texts.keys in
    let text = c.args.text.now in
    let found = c.in-Some.field-0-1.now in
    let same : text ≡ found.items = (bytes_eq-Decides text found.items).0 (find-passes (λ k. bytes_eq text k.items) keys found (sym c.in-Some.ensures.key)) in
    rw (← c.self.view_is) (record { stands = slice_get-map bytes keys c.in-Some.number ∙ ap (option_map bytes) c.in-Some.ensures.stored ∙ ap Some (sym same); grown = inl refl })

-- the texts after a new one was inserted
new_texts : (c : goal.In_ok-number) → (map bytes c.insert_full.new.self.keys ≡ c.args.self.now ++ c.args.text.now ∷ []) × IsNew c.args.self.now c.args.text.now
unfolding bytes
new_texts c =
    let keys = c.self.inside.texts.keys in
    let copy = c.in_ok-copy.copy in
    let z = c.in_ok-copy.ensures.items in
    let none : list_any (λ k. bytes_eq copy.items k.items) keys ≡ false = ap (λ b. list_any (λ k. bytes_eq b k.items) keys) z ∙ sym c.in_default.ensures.found in
    let new : c.insert_full.new.self.keys ≡ keys ++ copy ∷ [] = c.in_ok-number.ensures.keys ∙ ap (λ t. if t then keys else keys ++ copy ∷ []) none in
    let fresh = none-new keys c.args.text.now (sym c.in_default.ensures.found) in (
      ap (map bytes) new ∙ map-append bytes keys (copy ∷ []) ∙ (λ i. c.self.view_is i ++ z i ∷ []),
      subst (λ l. IsNew l c.args.text.now) c.self.view_is fresh,
    )

pub returns-clause-ok : goal.returns-clause-ok
unfolding bytes
returns-clause-ok c =
    let keys = c.self.inside.texts.keys in
    let copy = c.in_ok-copy.copy in
    let z = c.in_ok-copy.ensures.items in
    let s = c.in_ok-number.ensures.stored in
    let none : list_any (λ k. bytes_eq copy.items k.items) keys ≡ false = ap (λ b. list_any (λ k. bytes_eq b k.items) keys) z ∙ sym c.in_default.ensures.found in
    let same = (bytes_eq-Decides copy.items s.0.items).0 s.2 in
    let new = new_texts c in
    record {
      stands = slice_get-map bytes c.insert_full.new.self.keys c.in_ok-number.number ∙ ap (option_map bytes) s.1 ∙ ap Some (sym same ∙ z);
      grown = inr (
        new.0,
        c.in_ok-number.ensures.index ∙ none-passes (λ k. bytes_eq copy.items k.items) keys none ∙ sym (length-map keys bytes) ∙ ap length c.self.view_is,
        new.1,
      );
    }

pub invariant_of-self-2 : goal.invariant_of-self-2
unfolding bytes
invariant_of-self-2 c =
    let new = new_texts c in
    let distinct = subst AreDistinct c.self.view_is c.self.invariant.0 in
    let room = c.requires in
    let longer = length-append c.args.self.now (c.args.text.now ∷ []) in
    let bound : length (c.args.self.now ++ c.args.text.now ∷ []) < 4294967296 = omega (arith, longer, room) in
    let P : List (List ℕ) → Type 0 = λ l. AreDistinct l × (length l < 4294967296) in
    subst P (sym new.0) (distinct-more c.args.self.now c.args.text.now distinct new.1, bound)

pub returns-clause-distinct : goal.returns-clause-distinct
unfolding bytes
returns-clause-distinct c =
    let new = new_texts c in
    let distinct = subst AreDistinct c.self.view_is c.self.invariant.0 in
    subst AreDistinct (sym new.0) (distinct-more c.args.self.now c.args.text.now distinct new.1)

on_err : {A E : Type 0} {P : Type 0} (r : Result A E) → P → OnErr r P
on_err (Ok a) p = tt
on_err (Err e) p = p

pub returns-in_err-copy-clause-wanted : goal.returns-in_err-copy-clause-wanted
returns-in_err-copy-clause-wanted c = on_err _ (subst (λ l. IsNew l c.args.text.now) c.self.view_is (none-new c.self.inside.texts.keys c.args.text.now (sym c.in_default.ensures.found)))

pub returns-in_err-number-clause-wanted : goal.returns-in_err-number-clause-wanted
returns-in_err-number-clause-wanted c = on_err _ (subst (λ l. IsNew l c.args.text.now) c.self.view_is (none-new c.self.inside.texts.keys c.args.text.now (sym c.in_default.ensures.found)))

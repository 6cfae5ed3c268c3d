-- The first rule that matches.
-- For: first_match, within
use Rattle.std.proofs.Common.{◌≡◌, ℕ, zero, suc, ◌+◌, List, [], ◌∷◌, drop, refl, ap, ◌∙◌, Option, Some, None, arith, rules, ◌<◌, false}
use Rattle.std.specs.Prelude.{is_none}
use Rattle.std.specs.Prelude.{slice_get}
use Rattle.std.specs.Option.{option_map, unwrap_or}
use Rattle.ps_pattern.specs.declared.syntax.Syntax.{Syntax}
use Rattle.ps_pattern.specs.declared.transcription.Rule.{Rule}
use Rattle.ps_pattern.specs.Matching.{Literals, Binds, matched}
use Rattle.ps_pattern.specs.Filling.{filled, size}
use Rattle.ps_pattern.specs.Transcribing.{chosen, or_else}

some_is : {A : Type 0} {a b : A} → Some a ≡ Some b → a ≡ b
some_is {A} {a} {b} e = ap (λ o. unwrap_or o a) e

module _ (same : Literals) (stamp : ℕ) (f : Syntax) where
  abbrev pub one : Rule → Option (Option Syntax)
  one r = option_map (filled stamp f.place r.template) (matched same r.pattern f)

  drop_at : (rs : List Rule) (i : ℕ) (r : Rule) → slice_get rs i ≡ Some r → chosen same stamp f (drop i rs) ≡ or_else (one r) (chosen same stamp f (drop (suc i) rs))
  drop_at [] i r e = search rules
  drop_at (q ∷ rs) zero r e = ap (λ z. or_else (one z) (chosen same stamp f rs)) (some_is e)
  drop_at (q ∷ rs) (suc i) r e = drop_at rs i r e

  -- a rule that does not match is passed over
  pub passed : (rs : List Rule) (i : ℕ) (r : Rule) → slice_get rs i ≡ Some r → chosen same stamp f rs ≡ chosen same stamp f (drop i rs) → matched same r.pattern f ≡ None → chosen same stamp f rs ≡ chosen same stamp f (drop (i + 1) rs)
  passed rs i r e inv h =
      let one_more : suc i ≡ i + 1 = omega arith in
      inv ∙ drop_at rs i r e ∙ ap (λ z. or_else (option_map (filled stamp f.place r.template) z) (chosen same stamp f (drop (suc i) rs))) h ∙ ap (λ n. chosen same stamp f (drop n rs)) one_more

  pub taken_rule : (rs : List Rule) (i : ℕ) (r : Rule) (binds : Binds) → slice_get rs i ≡ Some r → chosen same stamp f rs ≡ chosen same stamp f (drop i rs) → matched same r.pattern f ≡ Some binds → chosen same stamp f rs ≡ Some (filled stamp f.place r.template binds)
  taken_rule rs i r binds e inv h = inv ∙ drop_at rs i r e ∙ ap (λ z. or_else (option_map (filled stamp f.place r.template) z) (chosen same stamp f (drop (suc i) rs))) h

pub too_large : (a : Option Syntax) (room : ℕ) → is_none a ≡ false → ((x : Syntax) → a ≡ Some x → room < size x) → (x : Syntax) × (Some a ≡ Some (Some x)) × (room < size x)
too_large None room e h = search rules
too_large (Some f) room e h = (f, refl, h f refl)

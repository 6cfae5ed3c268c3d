-- What follows a text at the front of a word is what stripping the text off leaves.
-- For: folder_in, folders_of
use Rattle.std.proofs.Common.{◌≡◌, ◌≢◌, ℕ, List, [], ◌∷◌, ◌++◌, drop, Bool, true, false, Option, Some, None, refl, sym, ap, ◌∙◌, arith}
use Rattle.std.specs.Prelude.{nat_eq, if◌then◌else◌, MatchOption}
use Rattle.std.specs.Option.{option_map}
use Rattle.std.specs.Str.Pattern.{FindsTextPrefix, StripsPrefix}
use Rattle.ps_library.specs.PathWords.{behind}
use denote.Ref.{Bor}

same : (b c : ℕ) → nat_eq b c ≡ true → b ≡ c
same b c e = grind (arith, e)

found : (front rest : List ℕ) → behind front (front ++ rest) ≡ Some rest
found [] rest = refl
found (b ∷ front) rest = let e : nat_eq b b ≡ true = grind arith in ap (λ t. if t then behind front (front ++ rest) else None) e ∙ found front rest

missed : (front word : List ℕ) → ((rest : List ℕ) → word ≢ front ++ rest) → behind front word ≡ None
missed [] word lacks = absurd (lacks word refl)
missed (b ∷ front) [] lacks = refl
missed (b ∷ front) (c ∷ word) lacks = go (nat_eq b c) refl (λ e. missed front word (λ rest h. lacks rest (ap (λ x. x ∷ word) (sym (same b c e)) ∙ ap (λ xs. b ∷ xs) h))) where
  go : (t : Bool) → nat_eq b c ≡ t → (nat_eq b c ≡ true → behind front word ≡ None) → (if t then behind front word else None) ≡ None
  go false e so = refl
  go true e so = so e

-- what stripping answers
pub stripped : (front word : List ℕ) (r : Option (Bor (List ℕ))) → MatchOption r (FindsTextPrefix front word None) (λ x. StripsPrefix (FindsTextPrefix front) word x.now)
    → option_map (λ x. x.now) r ≡ behind front word
stripped front word None h = sym (missed front word h)
stripped front word (Some x) (n, (long, parts, at), is, size) = ap (λ xs. Some xs) is ∙ sym (found front (drop n word)) ∙ ap (behind front) (sym parts)

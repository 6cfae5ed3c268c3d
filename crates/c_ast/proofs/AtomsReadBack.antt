-- Atoms, arguments and parameters in a text.
-- For: lines_same
use Rattle.std.proofs.Common.{◌≡◌, ℕ, zero, suc, ◌+◌, ◌<◌, ◌^◌, Bool, true, false, if◌then◌else◌, List, [], ◌∷◌, ◌++◌, drop, get_or, refl, sym, ap, subst, append_assoc, arith}
use Rattle.std.specs.Prelude.{ℤ, pos, negsuc, ◌==◌, decimal}
use Rattle.std.specs.List.{AllByRecursion}
use Rattle.std.specs.Str.Parse.{AllDigits}
use Rattle.std.proofs.lemmas.Bool.{eqb-true, ne_eqb}
use Rattle.std.proofs.lemmas.Str.Parse.{digit_from_value}
use Rattle.ps_base.specs.Numbers.{IsWord}
use Rattle.ps_base.specs.Texts.{◌&◌, each}
use Rattle.c_ast.specs.declared.unit.Atom.{Atom}
use Rattle.c_ast.specs.declared.unit.Atom.TheVariants as atoms
use Rattle.c_ast.specs.Text.{natural_text, negative_text, integer_text, atom_text, next_argument, arguments_text, next_parameters, parameters_text}
use Rattle.c_ast.proofs.NumbersReadBack.{number_at, behind, NoDigit, decimal_digits, number_front, behind_number}

-- the byte at a place
abbrev pub byte_at : ℕ → List ℕ → ℕ
byte_at n t = get_or t n 0

-- ---- integers and variables

abbrev minus : ℕ → ℤ
minus zero = pos zero
minus (suc n) = negsuc n

-- behind the number of a negative integer comes a bracket; `-` comes behind that of the least one
abbrev pub atom_at : List ℕ → Atom
atom_at t =
    if byte_at 0 t == 118 then atoms.Variable (number_at (drop 1 t))
    else (if byte_at 0 t == 73 then atoms.Integer (pos (number_at (drop 8 t)))
    else (if byte_at 1 (behind (drop 10 t)) == 45 then atoms.Integer (negsuc (number_at (drop 10 t))) else atoms.Integer (minus (number_at (drop 10 t)))))

abbrev pub behind_atom : List ℕ → List ℕ
behind_atom t =
    if byte_at 0 t == 118 then behind (drop 1 t)
    else (if byte_at 0 t == 73 then drop 1 (behind (drop 8 t))
    else (if byte_at 1 (behind (drop 10 t)) == 45 then drop 13 (behind (drop 10 t)) else drop 2 (behind (drop 10 t))))

-- a variable whose number is small, or an integer of 64 bits
abbrev pub FitsAtom : Atom → Type 0
FitsAtom (atoms.Variable k) = k < 2 ^ 64
FitsAtom (atoms.Integer i) = IsWord i

-- the atom is read again, and what stands behind it; it does not begin as a call does
pub record AtomBack (a : Atom) (r : List ℕ) : Type 0 where
  pub is : atom_at (atom_text a ++ r) ≡ a
  pub rest : behind_atom (atom_text a ++ r) ≡ r
  pub no_call : (byte_at 0 (atom_text a ++ r) == 112) ≡ false

variable_back : (k : ℕ) (r : List ℕ) → k < 2 ^ 64 → NoDigit r → AtomBack (atoms.Variable k) r
unfolding atom_text ◌&◌
variable_back k r h begins = record { is = ap (λ n. atoms.Variable n) (number_front k r h begins); rest = behind_number k r h begins; no_call = refl }

natural_back : (n : ℕ) (r : List ℕ) → n < 9223372036854775808 → AtomBack (atoms.Integer (pos n)) r
unfolding atom_text integer_text natural_text ◌&◌
natural_back n r h =
    let small : n < 2 ^ 64 = omega arith in
    let e = append_assoc (decimal n) (41 ∷ []) r in
    record {
      is = rw (e, number_front n (41 ∷ r) small refl) refl;
      rest = rw (e, behind_number n (41 ∷ r) small refl) refl;
      no_call = refl;
    }

negative_back : (n : ℕ) (r : List ℕ) → n < 9223372036854775808 → (n == 9223372036854775807) ≡ false → AtomBack (atoms.Integer (negsuc n)) r
unfolding atom_text integer_text negative_text ◌&◌
negative_back n r h other =
    let small : suc n < 2 ^ 64 = omega arith in
    let e = append_assoc (decimal (suc n)) (41 ∷ 41 ∷ []) r in
    record {
      is = rw (other, e, behind_number (suc n) (41 ∷ 41 ∷ r) small refl, number_front (suc n) (41 ∷ 41 ∷ r) small refl) refl;
      rest = rw (other, e, behind_number (suc n) (41 ∷ 41 ∷ r) small refl) refl;
      no_call = rw other refl;
    }

least_back : (r : List ℕ) → AtomBack (atoms.Integer (negsuc 9223372036854775807)) r
unfolding atom_text integer_text ◌&◌
least_back r = record { is = refl; rest = refl; no_call = refl }

negsuc_back : (b : Bool) (n : ℕ) (r : List ℕ) → n < 9223372036854775808 → (n == 9223372036854775807) ≡ b → AtomBack (atoms.Integer (negsuc n)) r
negsuc_back true n r h e = subst (λ (m : ℕ). AtomBack (atoms.Integer (negsuc m)) r) (sym (eqb-true n 9223372036854775807 e)) (least_back r)
negsuc_back false n r h e = negative_back n r h e

pub atom_back : (a : Atom) (r : List ℕ) → FitsAtom a → NoDigit r → AtomBack a r
atom_back (atoms.Variable k) r h begins = variable_back k r h begins
atom_back (atoms.Integer (pos n)) r h begins = natural_back n r h
atom_back (atoms.Integer (negsuc n)) r h begins = negsuc_back (n == 9223372036854775807) n r h refl

-- ---- arguments and parameters

-- the variables up to a bracket
abbrev pub arguments_in : List ℕ → List ℕ
arguments_in [] = []
arguments_in (c ∷ t) = if c == 41 then [] else (if c == 118 then number_at t ∷ arguments_in t else arguments_in t)

-- how many types there are up to a bracket: each has a `_`
abbrev pub parameters_in : List ℕ → ℕ
parameters_in [] = 0
parameters_in (c ∷ t) = if c == 41 then 0 else (if c == 95 then suc (parameters_in t) else parameters_in t)

-- what stands behind the bracket
abbrev pub behind_bracket : List ℕ → List ℕ
behind_bracket [] = []
behind_bracket (c ∷ t) = if c == 41 then t else behind_bracket t

-- a digit is none of these
other_byte : (c d : ℕ) → (c ≡ d → ⊥) → (c == d) ≡ false
other_byte c d other = ne_eqb c d other

digits_skipped : (ds r : List ℕ) → AllDigits 10 ds → (arguments_in (ds ++ r) ≡ arguments_in r) × (parameters_in (ds ++ r) ≡ parameters_in r) × (behind_bracket (ds ++ r) ≡ behind_bracket r)
digits_skipped [] r h = (refl, refl, refl)
digits_skipped (c ∷ cs) r h =
    let d = digit_from_value c h.0 in
    let a : (c == 41) ≡ false = other_byte c 41 (λ e. omega arith) in
    let b : (c == 118) ≡ false = other_byte c 118 (λ e. omega arith) in
    let u : (c == 95) ≡ false = other_byte c 95 (λ e. omega arith) in
    let more = digits_skipped cs r h.1 in
    (rw (a, b) more.0, rw (a, u) more.1, rw a more.2)

abbrev pub FitArguments : List ℕ → Type 0
FitArguments = AllByRecursion (λ k. k < 2 ^ 64)

-- what stands behind an argument begins with no digit
no_digit : (ks : List ℕ) (i : ℕ) (r : List ℕ) → NoDigit (each next_argument i ks ++ 41 ∷ r)
unfolding each next_argument ◌&◌
no_digit [] i r = refl
no_digit (k ∷ ks) i r = refl

others_back : (ks : List ℕ) (i : ℕ) (r : List ℕ) → FitArguments ks → (arguments_in (each next_argument i ks ++ 41 ∷ r) ≡ ks) × (behind_bracket (each next_argument i ks ++ 41 ∷ r) ≡ r)
unfolding each next_argument ◌&◌
others_back [] i r h = (refl, refl)
others_back (k ∷ ks) i r h =
    let more = each next_argument (suc i) ks ++ 41 ∷ r in
    let back = others_back ks (suc i) r h.1 in
    let s = digits_skipped (decimal k) more (decimal_digits k h.0) in
    let e = append_assoc (decimal k) (each next_argument (suc i) ks) (41 ∷ r) in
    (rw (e, number_front k more h.0 (no_digit ks (suc i) r), s.0, back.0) refl, rw (e, s.2, back.1) refl)

pub arguments_back : (ks : List ℕ) (r : List ℕ) → FitArguments ks → (arguments_in (arguments_text ks ++ 41 ∷ r) ≡ ks) × (behind_bracket (arguments_text ks ++ 41 ∷ r) ≡ r)
unfolding arguments_text ◌&◌
arguments_back [] r h = (refl, refl)
arguments_back (k ∷ ks) r h =
    let more = each next_argument 0 ks ++ 41 ∷ r in
    let back = others_back ks 0 r h.1 in
    let s = digits_skipped (decimal k) more (decimal_digits k h.0) in
    let e = append_assoc (decimal k) (each next_argument 0 ks) (41 ∷ r) in
    (rw (e, number_front k more h.0 (no_digit ks 0 r), s.0, back.0) refl, rw (e, s.2, back.1) refl)

more_parameters_back : (n k : ℕ) (r : List ℕ) → k + n < 2 ^ 64 → (parameters_in (next_parameters k n ++ 41 ∷ r) ≡ n) × (behind_bracket (next_parameters k n ++ 41 ∷ r) ≡ r)
unfolding next_parameters ◌&◌
more_parameters_back zero k r h = (refl, refl)
more_parameters_back (suc n) k r h =
    let back = more_parameters_back n (suc k) r (omega arith) in
    let s = digits_skipped (decimal k) (next_parameters (suc k) n ++ 41 ∷ r) (decimal_digits k (omega arith)) in
    let e = append_assoc (decimal k) (next_parameters (suc k) n) (41 ∷ r) in
    (rw (e, s.1, back.0) refl, rw (e, s.2, back.1) refl)

pub parameters_back : (n : ℕ) (r : List ℕ) → n < 2 ^ 63 → (parameters_in (parameters_text n ++ 41 ∷ r) ≡ n) × (behind_bracket (parameters_text n ++ 41 ∷ r) ≡ r)
unfolding parameters_text ◌&◌
parameters_back zero r h = (refl, refl)
parameters_back (suc n) r h = let back = more_parameters_back n 1 r (omega arith) in (ap suc back.0, back.1)

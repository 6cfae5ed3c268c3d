-- A text adds at most one name a byte to a table of names.
-- For: file_of
use Rattle.std.proofs.Common.{ℕ, zero, suc, ◌+◌, ◌-◌, ◌≤◌, List, [], ◌∷◌, length, Option, Some, None, arith, length-append}
use Rattle.std.specs.Prelude.{codes}
use Rattle.ps_base.specs.Names.{number_of}
use Rattle.ps_read.specs.declared.token.Front.{Front}
use Rattle.ps_read.specs.declared.token.Front.TheVariants.{Gap, Whole, Named, Quoted, Stop}
use Rattle.ps_read.specs.Lexical.{Table, added, added_by, front_of, listed, listed_by, noted, taken}

few_added : (t : Table) (x : List ℕ) → length (added t x) ≤ length t + 1
few_added t x = go (number_of t x)
  where
    go : (o : Option ℕ) → length (added_by t x o) ≤ length t + 1
    go None = let long = length-append t (x ∷ []) in omega (arith, long)
    go (Some n) = omega arith

few_noted : (t : Table) (f : Front) → length (noted t f) ≤ length t + 1
unfolding noted
few_noted t (Gap n) = omega arith
few_noted t (Whole n x) = omega arith
few_noted t (Named n x) = few_added t x
few_noted t Quoted = few_added t (codes "quote")
few_noted t (Stop n kind) = omega arith

few_by : (t : Table) (o : Option ℕ) (more : ℕ → Table) (m : ℕ) → length t ≤ m → ((n : ℕ) → length (more n) ≤ m) → length (listed_by t o more) ≤ m
few_by t None more m h k = h
few_by t (Some n) more m h k = k n

pub few_listed : (t : Table) (n : ℕ) (text : List ℕ) → length (listed t n text) ≤ length t + length text
unfolding listed
few_listed t n [] = omega arith
few_listed t (suc n) (c ∷ cs) = let x = few_listed t n cs in omega arith
few_listed t zero (c ∷ cs) =
    let x = few_noted t (front_of c cs) in
    few_by (noted t (front_of c cs)) (taken (front_of c cs)) (λ n. listed (noted t (front_of c cs)) (n - 1) cs) _ (omega arith)
    (λ n. let y = few_listed (noted t (front_of c cs)) (n - 1) cs in omega arith)

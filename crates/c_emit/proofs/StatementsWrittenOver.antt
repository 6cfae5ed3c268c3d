-- A statement that is written over, once what it says is known.
-- For: build_expr
use Rattle.std.proofs.Common.{◌≡◌, ℕ, ◌+◌, List, [], ◌∷◌, ◌++◌, length, refl, sym, ap, ◌∙◌, arith, append_assoc, length-append}
use Rattle.std.specs.Prelude.{slice_set}

pub set-seam : {A : Type 0} (xs : List A) (y z : A) (ys : List A) → slice_set (xs ++ y ∷ ys) (length xs) z ≡ xs ++ z ∷ ys
set-seam [] y z ys = refl
set-seam (x ∷ xs) y z ys = ap (λ l. x ∷ l) (set-seam xs y z ys)

-- The statements of a conditional, put together in order: first with room for its two jumps, which are then written over.
module _ {A : Type 0} (s0 a b d c : List A) (op hole br jmp mv1 mv2 lab1 lab2 : A) (s1 s2 s3 s4 s5 s6 s7 s8 : List A) (branch jump : ℕ)
    (e1 : s1 ≡ s0 ++ a) (e2 : s2 ≡ s1 ++ b) (e3 : s3 ≡ s2 ++ op ∷ []) (at1 : branch ≡ length s3) (e4 : s4 ≡ s3 ++ hole ∷ []) (e5 : s5 ≡ s4 ++ d)
    (e6 : s6 ≡ slice_set (s5 ++ mv1 ∷ hole ∷ []) branch br ++ lab1 ∷ []) (at2 : jump ≡ length s5 + 1) (e7 : s7 ≡ s6 ++ c)
    (e8 : s8 ≡ slice_set (s7 ++ mv2 ∷ []) jump jmp ++ lab2 ∷ []) where
  behind-test : s5 ≡ s3 ++ hole ∷ d
  behind-test = e5 ∙ ap (λ l. l ++ d) e4 ∙ append_assoc s3 (hole ∷ []) d

  first-patch : s6 ≡ (s3 ++ br ∷ (d ++ mv1 ∷ [])) ++ hole ∷ lab1 ∷ []
  first-patch =
      e6
      ∙ ap (λ l. slice_set (l ++ mv1 ∷ hole ∷ []) branch br ++ lab1 ∷ []) behind-test
      ∙ ap (λ l. slice_set l branch br ++ lab1 ∷ []) (append_assoc s3 (hole ∷ d) (mv1 ∷ hole ∷ []))
      ∙ ap (λ n. slice_set (s3 ++ hole ∷ (d ++ mv1 ∷ hole ∷ [])) n br ++ lab1 ∷ []) at1
      ∙ ap (λ l. l ++ lab1 ∷ []) (set-seam s3 hole br (d ++ mv1 ∷ hole ∷ []))
      ∙ append_assoc s3 (br ∷ (d ++ mv1 ∷ hole ∷ [])) (lab1 ∷ [])
      ∙ ap (λ l. s3 ++ br ∷ l) (append_assoc d (mv1 ∷ hole ∷ []) (lab1 ∷ []) ∙ sym (append_assoc d (mv1 ∷ []) (hole ∷ lab1 ∷ [])))
      ∙ sym (append_assoc s3 (br ∷ (d ++ mv1 ∷ [])) (hole ∷ lab1 ∷ []))

  abbrev front : List A
  front = s3 ++ br ∷ (d ++ mv1 ∷ [])

  front-length : jump ≡ length front
  front-length = omega (arith, at2, ap length behind-test, length-append s3 (hole ∷ d), length-append s3 (br ∷ (d ++ mv1 ∷ [])), length-append d (mv1 ∷ []))

  second-patch : s8 ≡ front ++ jmp ∷ lab1 ∷ ((c ++ mv2 ∷ []) ++ lab2 ∷ [])
  second-patch =
      e8
      ∙ ap (λ l. slice_set (l ++ mv2 ∷ []) jump jmp ++ lab2 ∷ []) (e7 ∙ ap (λ l. l ++ c) first-patch ∙ append_assoc front (hole ∷ lab1 ∷ []) c)
      ∙ ap (λ l. slice_set l jump jmp ++ lab2 ∷ []) (append_assoc front (hole ∷ lab1 ∷ c) (mv2 ∷ []))
      ∙ ap (λ n. slice_set (front ++ hole ∷ lab1 ∷ (c ++ mv2 ∷ [])) n jmp ++ lab2 ∷ []) front-length
      ∙ ap (λ l. l ++ lab2 ∷ []) (set-seam front hole jmp (lab1 ∷ (c ++ mv2 ∷ [])))
      ∙ append_assoc front (jmp ∷ lab1 ∷ (c ++ mv2 ∷ [])) (lab2 ∷ [])

  pub conditional : s8 ≡ s0 ++ ((a ++ (b ++ op ∷ [])) ++ (br ∷ ((d ++ mv1 ∷ []) ++ (jmp ∷ lab1 ∷ ((c ++ mv2 ∷ []) ++ (lab2 ∷ []))))))
  conditional =
      let tests : s3 ≡ s0 ++ (a ++ (b ++ op ∷ [])) = e3 ∙ ap (λ l. l ++ op ∷ []) (e2 ∙ ap (λ l. l ++ b) e1) ∙ append_assoc (s0 ++ a) b (op ∷ []) ∙ append_assoc s0 a (b ++ op ∷ []) in
      second-patch
      ∙ append_assoc s3 (br ∷ (d ++ mv1 ∷ [])) (jmp ∷ lab1 ∷ ((c ++ mv2 ∷ []) ++ lab2 ∷ []))
      ∙ ap (λ l. l ++ (br ∷ ((d ++ mv1 ∷ []) ++ (jmp ∷ lab1 ∷ ((c ++ mv2 ∷ []) ++ (lab2 ∷ [])))))) tests
      ∙ append_assoc s0 (a ++ (b ++ op ∷ [])) _

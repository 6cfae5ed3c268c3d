-- The lines of a text, read again one by one.
-- For: one_unit
use Rattle.std.proofs.Common.{◌≡◌, ℕ, ◌<◌, ◌^◌, if◌then◌else◌, List, [], ◌∷◌, ◌++◌, drop, refl, sym, ap, ◌∙◌, append_assoc, arith}
use Rattle.std.specs.Prelude.{◌==◌, codes, decimal}
use Rattle.std.specs.List.{AllByRecursion}
use Rattle.ps_base.specs.Texts.{◌&◌}
use Rattle.c_ast.specs.declared.unit.Atom.{Atom}
use Rattle.c_ast.specs.declared.unit.BinaryOperator.{BinaryOperator}
use Rattle.c_ast.specs.declared.unit.BinaryOperator.TheVariants as operators
use Rattle.c_ast.specs.declared.unit.Statement.{Statement}
use Rattle.c_ast.specs.declared.unit.Statement.TheVariants as statements
use Rattle.c_ast.specs.Text.{Line, Announces, Opens, Declares, Does, Closes, Main, operator_text, arguments_text, statement_text, parameters_text, head_text, line_text, lines_text, atom_text}
use Rattle.c_ast.proofs.NumbersReadBack.{number_at, behind, number_front, behind_number}
use Rattle.c_ast.proofs.AtomsReadBack.{byte_at, atom_at, behind_atom, FitsAtom, atom_back, arguments_in, parameters_in, behind_bracket, FitArguments, arguments_back, parameters_back}

-- ---- a line is read: what it is, and what stands behind its end

abbrev operator_at : ℕ → BinaryOperator
operator_at c = if c == 43 then operators.Add else (if c == 45 then operators.Subtract else (if c == 42 then operators.Multiply else (if c == 60 then operators.Less else operators.Equal)))

-- how long an operator is with its two spaces
abbrev operator_width : ℕ → ℕ
operator_width c = if c == 61 then 4 else 3

abbrev Back : Type 0
Back = Line × List ℕ

-- the right operand of an operator, and the end
abbrev right_of : ℕ → Atom → ℕ → List ℕ → Back
right_of k a o t = (Does (statements.Operation k a (operator_at o) (atom_at t)), drop 2 (behind_atom t))

-- an atom, and what stands behind it
abbrev computed : ℕ → Atom → List ℕ → Back
computed k a t = if byte_at 0 t == 59 then (Does (statements.Move k a), drop 2 t) else right_of k a (byte_at 1 t) (drop (operator_width (byte_at 1 t)) t)

-- a call, behind its first letter
abbrev called : ℕ → List ℕ → Back
called k t =
    if byte_at 2 t == 114 then (Does (statements.Read k), drop 10 t)
    else (if byte_at 2 t == 119 then (Does (statements.Write k (atom_at (drop 8 t))), drop 3 (behind_atom (drop 8 t)))
    else (Does (statements.Call k (number_at (drop 3 t)) (arguments_in (drop 1 (behind (drop 3 t))))), drop 2 (behind_bracket (behind (drop 3 t)))))

abbrev assigned : ℕ → List ℕ → Back
assigned k t = if byte_at 0 t == 112 then called k (drop 1 t) else computed k (atom_at t) (behind_atom t)

-- a line of a body, behind its two spaces
abbrev inner : List ℕ → Back
inner t =
    if byte_at 0 t == 118 then assigned (number_at (drop 1 t)) (drop 3 (behind (drop 1 t)))
    else (if byte_at 0 t == 103 then (Does (statements.Goto (number_at (drop 6 t))), drop 2 (behind (drop 6 t)))
    else (if byte_at 0 t == 114 then (Does (statements.Return (atom_at (drop 7 t))), drop 2 (behind_atom (drop 7 t)))
    else (if byte_at 1 t == 110 then (Declares (number_at (drop 9 t)), drop 2 (behind (drop 9 t)))
    else (Does (statements.IfGoto (atom_at (drop 4 t)) (number_at (drop 8 (behind_atom (drop 4 t))))), drop 2 (behind (drop 8 (behind_atom (drop 4 t))))))))

abbrev headed : ℕ → ℕ → List ℕ → Back
headed n k t = if byte_at 0 t == 59 then (Announces n k, drop 2 t) else (Opens n k, drop 3 t)

abbrev first_line : List ℕ → Back
first_line t =
    if byte_at 0 t == 32 then inner (drop 2 t)
    else (if byte_at 0 t == 76 then (Does (statements.Label (number_at (drop 1 t))), drop 3 (behind (drop 1 t)))
    else (if byte_at 0 t == 115 then headed (number_at (drop 19 t)) (parameters_in (behind (drop 19 t))) (behind_bracket (behind (drop 19 t)))
    else (if byte_at 0 t == 125 then (Closes, drop 2 t) else (Main, drop 48 t))))

-- ---- lines that fit are read again

abbrev pub FitsStatement : Statement → Type 0
FitsStatement (statements.Move k a) = (k < 2 ^ 64) × FitsAtom a
FitsStatement (statements.Operation k a o b) = (k < 2 ^ 64) × FitsAtom a × FitsAtom b
FitsStatement (statements.Read k) = k < 2 ^ 64
FitsStatement (statements.Write k a) = (k < 2 ^ 64) × FitsAtom a
FitsStatement (statements.Call k f vs) = (k < 2 ^ 64) × (f < 2 ^ 64) × FitArguments vs
FitsStatement (statements.IfGoto a n) = FitsAtom a × (n < 2 ^ 64)
FitsStatement (statements.Goto n) = n < 2 ^ 64
FitsStatement (statements.Label n) = n < 2 ^ 64
FitsStatement (statements.Return a) = FitsAtom a

abbrev pub Fits : Line → Type 0
Fits (Announces n k) = (n < 2 ^ 64) × (k < 2 ^ 63)
Fits (Opens n k) = (n < 2 ^ 64) × (k < 2 ^ 63)
Fits (Declares k) = k < 2 ^ 64
Fits (Does s) = FitsStatement s
Fits Closes = Unit {0}
Fits Main = Unit {0}

move_back : (k : ℕ) (a : Atom) (r : List ℕ) → k < 2 ^ 64 → FitsAtom a → first_line (statement_text (statements.Move k a) ++ 10 ∷ r) ≡ (Does (statements.Move k a), r)
unfolding statement_text ◌&◌
move_back k a r hk ha =
    let x = atom_back a (59 ∷ 10 ∷ r) ha refl in
    let t = 32 ∷ 61 ∷ 32 ∷ (atom_text a ++ 59 ∷ 10 ∷ r) in
    rw (append_assoc (decimal k), append_assoc (atom_text a), number_front k t hk refl, behind_number k t hk refl, x.no_call, x.is, x.rest) refl

operation_right : (k : ℕ) (a : Atom) (o : BinaryOperator) (b : Atom) (r : List ℕ) → FitsAtom b → computed k a (32 ∷ (operator_text o ++ 32 ∷ (atom_text b ++ 59 ∷ 10 ∷ r))) ≡ (Does (statements.Operation k a o b), r)
unfolding operator_text
operation_right k a operators.Add b r hb = let y = atom_back b (59 ∷ 10 ∷ r) hb refl in rw (y.is, y.rest) refl
operation_right k a operators.Subtract b r hb = let y = atom_back b (59 ∷ 10 ∷ r) hb refl in rw (y.is, y.rest) refl
operation_right k a operators.Multiply b r hb = let y = atom_back b (59 ∷ 10 ∷ r) hb refl in rw (y.is, y.rest) refl
operation_right k a operators.Less b r hb = let y = atom_back b (59 ∷ 10 ∷ r) hb refl in rw (y.is, y.rest) refl
operation_right k a operators.Equal b r hb = let y = atom_back b (59 ∷ 10 ∷ r) hb refl in rw (y.is, y.rest) refl

operation_back : (k : ℕ) (a : Atom) (o : BinaryOperator) (b : Atom) (r : List ℕ) → k < 2 ^ 64 → FitsAtom a → FitsAtom b → first_line (statement_text (statements.Operation k a o b) ++ 10 ∷ r) ≡ (Does (statements.Operation k a o b), r)
unfolding statement_text ◌&◌
operation_back k a o b r hk ha hb =
    let u = 32 ∷ (operator_text o ++ 32 ∷ (atom_text b ++ 59 ∷ 10 ∷ r)) in
    let x = atom_back a u ha refl in
    let t = 32 ∷ 61 ∷ 32 ∷ (atom_text a ++ u) in
    rw (append_assoc (decimal k), append_assoc (atom_text a), append_assoc (operator_text o), append_assoc (atom_text b), number_front k t hk refl, behind_number k t hk refl, x.no_call, x.is, x.rest) (operation_right k a o b r hb)

read_back : (k : ℕ) (r : List ℕ) → k < 2 ^ 64 → first_line (statement_text (statements.Read k) ++ 10 ∷ r) ≡ (Does (statements.Read k), r)
unfolding statement_text ◌&◌
read_back k r hk =
    let t = codes " = ps_read();" ++ 10 ∷ r in
    rw (append_assoc (decimal k), number_front k t hk refl, behind_number k t hk refl) refl

write_back : (k : ℕ) (a : Atom) (r : List ℕ) → k < 2 ^ 64 → FitsAtom a → first_line (statement_text (statements.Write k a) ++ 10 ∷ r) ≡ (Does (statements.Write k a), r)
unfolding statement_text ◌&◌
write_back k a r hk ha =
    let x = atom_back a (41 ∷ 59 ∷ 10 ∷ r) ha refl in
    let t = codes " = ps_write(" ++ (atom_text a ++ 41 ∷ 59 ∷ 10 ∷ r) in
    rw (append_assoc (decimal k), append_assoc (atom_text a), number_front k t hk refl, behind_number k t hk refl, x.is, x.rest) refl

call_back : (k f : ℕ) (vs : List ℕ) (r : List ℕ) → k < 2 ^ 64 → f < 2 ^ 64 → FitArguments vs → first_line (statement_text (statements.Call k f vs) ++ 10 ∷ r) ≡ (Does (statements.Call k f vs), r)
unfolding statement_text ◌&◌
call_back k f vs r hk hf hv =
    let x = arguments_back vs (59 ∷ 10 ∷ r) hv in
    let u = 40 ∷ (arguments_text vs ++ 41 ∷ 59 ∷ 10 ∷ r) in
    let t = codes " = ps_f" ++ (decimal f ++ u) in
    rw (append_assoc (decimal k), append_assoc (decimal f), append_assoc (arguments_text vs), number_front k t hk refl, behind_number k t hk refl, number_front f u hf refl, behind_number f u hf refl, x.0, x.1) refl

if_back : (a : Atom) (n : ℕ) (r : List ℕ) → FitsAtom a → n < 2 ^ 64 → first_line (statement_text (statements.IfGoto a n) ++ 10 ∷ r) ≡ (Does (statements.IfGoto a n), r)
unfolding statement_text ◌&◌
if_back a n r ha hn =
    let t = codes ") goto L" ++ (decimal n ++ 59 ∷ 10 ∷ r) in
    let x = atom_back a t ha refl in
    rw (append_assoc (atom_text a), append_assoc (decimal n), x.is, x.rest, number_front n (59 ∷ 10 ∷ r) hn refl, behind_number n (59 ∷ 10 ∷ r) hn refl) refl

goto_back : (n : ℕ) (r : List ℕ) → n < 2 ^ 64 → first_line (statement_text (statements.Goto n) ++ 10 ∷ r) ≡ (Does (statements.Goto n), r)
unfolding statement_text ◌&◌
goto_back n r hn = rw (append_assoc (decimal n), number_front n (59 ∷ 10 ∷ r) hn refl, behind_number n (59 ∷ 10 ∷ r) hn refl) refl

label_back : (n : ℕ) (r : List ℕ) → n < 2 ^ 64 → first_line (statement_text (statements.Label n) ++ 10 ∷ r) ≡ (Does (statements.Label n), r)
unfolding statement_text ◌&◌
label_back n r hn = rw (append_assoc (decimal n), number_front n (58 ∷ 59 ∷ 10 ∷ r) hn refl, behind_number n (58 ∷ 59 ∷ 10 ∷ r) hn refl) refl

return_back : (a : Atom) (r : List ℕ) → FitsAtom a → first_line (statement_text (statements.Return a) ++ 10 ∷ r) ≡ (Does (statements.Return a), r)
unfolding statement_text ◌&◌
return_back a r ha = let x = atom_back a (59 ∷ 10 ∷ r) ha refl in rw (append_assoc (atom_text a), x.is, x.rest) refl

statement_back : (s : Statement) (r : List ℕ) → FitsStatement s → first_line (statement_text s ++ 10 ∷ r) ≡ (Does s, r)
statement_back (statements.Move k a) r h = move_back k a r h.0 h.1
statement_back (statements.Operation k a o b) r h = operation_back k a o b r h.0 h.1 h.2
statement_back (statements.Read k) r h = read_back k r h
statement_back (statements.Write k a) r h = write_back k a r h.0 h.1
statement_back (statements.Call k f vs) r h = call_back k f vs r h.0 h.1 h.2
statement_back (statements.IfGoto a n) r h = if_back a n r h.0 h.1
statement_back (statements.Goto n) r h = goto_back n r h
statement_back (statements.Label n) r h = label_back n r h
statement_back (statements.Return a) r h = return_back a r h

-- a head and what ends its line
head_back : (n k : ℕ) (r : List ℕ) → n < 2 ^ 64 → k < 2 ^ 63 → first_line (head_text n k ++ r) ≡ headed n k r
unfolding head_text ◌&◌
head_back n k r hn hk =
    let x = parameters_back k r hk in
    let t = 40 ∷ (parameters_text k ++ 41 ∷ r) in
    rw (append_assoc (decimal n), append_assoc (parameters_text k), number_front n t hn refl, behind_number n t hn refl, x.0, x.1) refl

declares_back : (k : ℕ) (r : List ℕ) → k < 2 ^ 64 → first_line (line_text (Declares k) ++ 10 ∷ r) ≡ (Declares k, r)
unfolding line_text ◌&◌
declares_back k r hk = rw (append_assoc (decimal k), number_front k (59 ∷ 10 ∷ r) hk refl, behind_number k (59 ∷ 10 ∷ r) hk refl) refl

line_back : (l : Line) (r : List ℕ) → Fits l → first_line (line_text l ++ 10 ∷ r) ≡ (l, r)
unfolding line_text ◌&◌
line_back (Announces n k) r h = rw (append_assoc (head_text n k)) (head_back n k (59 ∷ 10 ∷ r) h.0 h.1)
line_back (Opens n k) r h = rw (append_assoc (head_text n k)) (head_back n k (32 ∷ 123 ∷ 10 ∷ r) h.0 h.1)
line_back (Declares k) r h = declares_back k r h
line_back (Does s) r h = statement_back s r h
line_back Closes r h = refl
line_back Main r h = refl

-- ---- lines that fit have one text

abbrev size : List ℕ → ℕ
size [] = 0
size (c ∷ t) = 1

two_sizes : (n : ℕ) → n ≡ 0 → n ≡ 1 → ⊥
two_sizes n e f = omega arith

no_text : (x r : List ℕ) → [] ≡ x ++ 10 ∷ r → ⊥
no_text [] r e = two_sizes 0 refl (ap size e)
no_text (c ∷ x) r e = two_sizes 0 refl (ap size e)

pub lines_same : (ls ms : List Line) → AllByRecursion Fits ls → AllByRecursion Fits ms → lines_text ls ≡ lines_text ms → ls ≡ ms
unfolding lines_text ◌&◌
lines_same [] [] h k e = refl
lines_same [] (m ∷ ms) h k e = absurd (no_text (line_text m) (lines_text ms) e)
lines_same (l ∷ ls) [] h k e = absurd (no_text (line_text l) (lines_text ls) (sym e))
lines_same (l ∷ ls) (m ∷ ms) h k e =
    let both : (l, lines_text ls) ≡ (m, lines_text ms) = sym (line_back l (lines_text ls) h.0) ∙ ap first_line e ∙ line_back m (lines_text ms) k.0 in
    ap (λ (b : Back). b.0 ∷ ls) both ∙ ap (λ (xs : List Line). m ∷ xs) (lines_same ls ms h.1 k.1 (ap (λ (b : Back). b.1) both))

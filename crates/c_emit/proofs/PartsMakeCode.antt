-- Statements, as the code puts them together: a conditional, and the operands and writes that are left.
-- For: build_expr, build_function
use Rattle.std.proofs.Common.{◌≡◌, ℕ, suc, ◌+◌, ◌<◌, List, [], ◌∷◌, ◌++◌, length, map, drop, get_or, sym, ap, ◌∙◌, arith, append_assoc, drop-cons, add-one}
use Rattle.std.specs.Prelude.{slice_set}
use Rattle.c_ast.specs.declared.unit.Atom.{Atom}
use Rattle.c_ast.specs.declared.unit.Atom.TheVariants as atoms
use Rattle.c_ast.specs.declared.unit.BinaryOperator.{BinaryOperator}
use Rattle.c_ast.specs.declared.unit.Statement.{Statement}
use Rattle.c_ast.specs.declared.unit.Statement.TheVariants as statements
use Rattle.ps_plain.specs.declared.program.Expr.{Expr}
use Rattle.ps_plain.specs.declared.program.Write.{Write}
use Rattle.c_emit.specs.InsideCode.{Coded, if_code, coded, operands_code, operands_places, writes_code}
use Rattle.c_emit.proofs.StatementsWrittenOver.{conditional}

-- the numbers of the next variable and the next label, and the statements, after each part
module _ (o : BinaryOperator) (a b c d : Coded) (s0 s1 s2 s3 s4 s5 s6 s7 s8 : List Statement) (k k1 k2 k3 k4 k5 k6 l l1 l2 l3 l4 l5 l6 l7 target branch jump : ℕ) (x y other first : Atom)
    (e1 : s1 ≡ s0 ++ a.statements k l) (v1 : k1 ≡ k + a.size) (n1 : l1 ≡ l + a.labels) (ax : x ≡ a.atom k)
    (e2 : s2 ≡ s1 ++ b.statements k1 l1) (v2 : k2 ≡ k1 + b.size) (n2 : l2 ≡ l1 + b.labels) (ay : y ≡ b.atom k1)
    (e3 : s3 ≡ s2 ++ statements.Operation k2 x o y ∷ []) (t : target ≡ k2) (v3 : k3 ≡ k2 + 1) (n3 : l3 ≡ l2)
    (e4 : s4 ≡ s3 ++ statements.Goto 0 ∷ []) (at1 : branch ≡ length s3) (v4 : k4 ≡ k3) (n4 : l4 ≡ l3)
    (e5 : s5 ≡ s4 ++ d.statements k4 l4) (v5 : k5 ≡ k4 + d.size) (n5 : l5 ≡ l4 + d.labels) (ad : other ≡ d.atom k4)
    (e6 : s6 ≡ slice_set (s5 ++ statements.Move target other ∷ statements.Goto 0 ∷ []) branch (statements.IfGoto (atoms.Variable target) l5) ++ statements.Label l5 ∷ [])
    (v6 : k6 ≡ k5) (n6 : l6 ≡ l5 + 1) (at2 : jump ≡ length s5 + 1)
    (e7 : s7 ≡ s6 ++ c.statements k6 l6) (n7 : l7 ≡ l6 + c.labels) (af : first ≡ c.atom k6)
    (e8 : s8 ≡ slice_set (s7 ++ statements.Move target first ∷ []) jump (statements.Goto l7) ++ statements.Label l7 ∷ []) where
  pub built-if : s8 ≡ s0 ++ if_code o a b c d k l
  built-if =
      let h = conditional s0 (a.statements k l) (b.statements k1 l1) (d.statements k4 l4) (c.statements k6 l6) (statements.Operation k2 x o y) (statements.Goto 0)
      (statements.IfGoto (atoms.Variable target) l5) (statements.Goto l7) (statements.Move target other) (statements.Move target first) (statements.Label l5) (statements.Label l7)
      s1 s2 s3 s4 s5 s6 s7 s8 branch jump e1 e2 e3 at1 e4 e5 e6 at2 e7 e8 in
      let target_is : target ≡ k + a.size + b.size = omega arith in
      let k2_is : k2 ≡ k + a.size + b.size = omega arith in
      let k4_is : k4 ≡ k + a.size + b.size + 1 = omega arith in
      let k6_is : k6 ≡ k + a.size + b.size + 1 + d.size = omega arith in
      let l4_is : l4 ≡ l + a.labels + b.labels = omega arith in
      let l5_is : l5 ≡ l + a.labels + b.labels + d.labels = omega arith in
      let l6_is : l6 ≡ l + a.labels + b.labels + d.labels + 1 = omega arith in
      let l7_is : l7 ≡ l + a.labels + b.labels + d.labels + 1 + c.labels = omega arith in
      rw (ax, ay, ad, af, v1, n1, target_is, k2_is, k4_is, k6_is, l4_is, l5_is, l6_is, l7_is) at h

-- what stands first of the members that are left
pub next-member : {A : Type 0} (es : List A) (i : ℕ) (e : A) → i < length es → e ≡ get_or es i e → drop i es ≡ e ∷ drop (i + 1) es
next-member es i e lt is = drop-cons es i e lt ∙ ap (λ y. y ∷ drop (suc i) es) (sym is) ∙ ap (λ (n : ℕ). e ∷ drop n es) (sym (add-one i))

-- the code of the writes that are left, once one more is built
pub write-more : (ws rest : List Write) (w : Write) → ws ≡ w ∷ rest → (v l v' l' : ℕ) (st st' total : List Statement)
    → st ++ writes_code ws v l ≡ total → st' ≡ st ++ ((coded w.value).statements v l ++ (statements.Write (v + (coded w.value).size) ((coded w.value).atom v) ∷ []))
    → v' ≡ v + ((coded w.value).size + 1) → l' ≡ l + (coded w.value).labels → st' ++ writes_code rest v' l' ≡ total
write-more ws rest w is v l v' l' st st' total h new ev el =
    let part : List Statement = (coded w.value).statements v l ++ (statements.Write (v + (coded w.value).size) ((coded w.value).atom v) ∷ []) in
    ap (λ s. s ++ writes_code rest v' l') new
    ∙ append_assoc st part (writes_code rest v' l')
    ∙ ap (λ n. st ++ (part ++ writes_code rest n l')) ev
    ∙ ap (λ n. st ++ (part ++ writes_code rest (v + ((coded w.value).size + 1)) n)) el
    ∙ ap (λ x. st ++ writes_code x v l) (sym is)
    ∙ h

-- the code of the operands that are left, once one more is built
pub operand-more : (es rest : List Expr) (e : Expr) → es ≡ e ∷ rest → (v l v' l' : ℕ) (st st' total : List Statement)
    → st ++ operands_code (map coded es) v l ≡ total → st' ≡ (st ++ (coded e).statements v l) ++ statements.Move (v + (coded e).size) ((coded e).atom v) ∷ []
    → v' ≡ v + ((coded e).size + 1) → l' ≡ l + (coded e).labels → st' ++ operands_code (map coded rest) v' l' ≡ total
operand-more es rest e is v l v' l' st st' total h new ev el =
    let E : List Statement = (coded e).statements v l in
    let M : List Statement = statements.Move (v + (coded e).size) ((coded e).atom v) ∷ [] in
    let left = operands_code (map coded rest) (v + ((coded e).size + 1)) (l + (coded e).labels) in
    ap (λ s. s ++ operands_code (map coded rest) v' l') new
    ∙ ap (λ n. ((st ++ E) ++ M) ++ operands_code (map coded rest) n l') ev
    ∙ ap (λ n. ((st ++ E) ++ M) ++ operands_code (map coded rest) (v + ((coded e).size + 1)) n) el
    ∙ append_assoc (st ++ E) M left
    ∙ append_assoc st E (M ++ left)
    ∙ ap (λ x. st ++ x) (sym (append_assoc E M left))
    ∙ ap (λ x. st ++ operands_code (map coded x) v l) (sym is)
    ∙ h

-- and their variables
pub place-more : (es rest : List Expr) (e : Expr) → es ≡ e ∷ rest → (v v' target : ℕ) (ps ps' total : List ℕ)
    → ps ++ operands_places (map coded es) v ≡ total → ps' ≡ ps ++ target ∷ [] → target ≡ v + (coded e).size → v' ≡ v + ((coded e).size + 1)
    → ps' ++ operands_places (map coded rest) v' ≡ total
place-more es rest e is v v' target ps ps' total h new et ev =
    ap (λ s. s ++ operands_places (map coded rest) v') new
    ∙ ap (λ n. (ps ++ n ∷ []) ++ operands_places (map coded rest) v') et
    ∙ ap (λ n. (ps ++ (v + (coded e).size) ∷ []) ++ operands_places (map coded rest) n) ev
    ∙ append_assoc ps ((v + (coded e).size) ∷ []) (operands_places (map coded rest) (v + ((coded e).size + 1)))
    ∙ ap (λ x. ps ++ operands_places (map coded x) v) (sym is)
    ∙ h

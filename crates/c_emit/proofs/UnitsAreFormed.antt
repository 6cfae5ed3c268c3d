-- The unit of a valid program is well formed.
-- For: build
use Rattle.std.proofs.Common.{◌≡◌, ℕ, suc, ◌+◌, ◌<◌, ◌≤◌, ◌^◌, true, List, [], ◌∷◌, ◌++◌, length, map, refl, sym, ap, ◌∙◌, subst, arith, append_assoc, add-one}
use Rattle.std.specs.Prelude.{ℤ, pos, negsuc, Bool, ◌&&◌, Option, Some, None, slice_get}
use Rattle.std.specs.List.{AllByRecursion}
use Rattle.std.proofs.lemmas.Bool.{and_parts, ltb-true, eqb-true}
use Rattle.std.proofs.lemmas.List.{length-map}
use Rattle.ps_base.specs.declared.faults.Place.{Place}
use Rattle.ps_base.specs.Numbers.{IsWord, is_word, sum_of}
use Rattle.ps_plain.specs.declared.program.Expr.{Expr}
use Rattle.ps_plain.specs.declared.program.Expr.TheOpen.{Expr-F}
use Rattle.ps_plain.specs.declared.program.Expr.TheVariants as exprs
use Rattle.ps_plain.specs.declared.program.Operator.{Operator}
use Rattle.ps_plain.specs.declared.program.Comparison.{Comparison}
use Rattle.ps_plain.specs.declared.program.Write.{Write}
use Rattle.ps_plain.specs.declared.program.Procedure.{Procedure}
use Rattle.ps_plain.specs.declared.program.Program.{Program}
use Rattle.ps_plain.specs.Forms.{has_arity}
use Rattle.ps_plain.specs.Size.{procedure_size, program_size}
use Rattle.ps_plain.specs.Valid.{Named, all_true, valid_node, valid, named_in, IsProcedure, IsValid}
use Rattle.ps_plain.proofs.Trees.{induction, fold-integer, fold-parameter, fold-operation, fold-if, fold-call, fold-read}
use Rattle.c_ast.specs.declared.unit.Atom.{Atom}
use Rattle.c_ast.specs.declared.unit.BinaryOperator.{BinaryOperator}
use Rattle.c_ast.specs.declared.unit.Statement.{Statement}
use Rattle.c_ast.specs.declared.unit.Statement.TheVariants as statements
use Rattle.c_ast.specs.WellFormed.{IsAtom, Declared, IsStatement, EndsWell, labels_of, CountsFrom, IsFunction, IsWellFormed}
use Rattle.c_emit.specs.InsideCode.{Coded, operator_of, comparison_of, operation_code, branch_code, if_code, operands_size, operands_labels, operands_code, operands_places, coded_node, coded, writes_size, writes_labels, writes_code, function_of, unit_of}
use Rattle.c_emit.proofs.JumpsGoBehindLabels.{all-append}
use Rattle.c_emit.proofs.CodeIsSmall.{procedure-small}

-- ---- labels in order of the text

labels-append : (xs ys : List Statement) → labels_of (xs ++ ys) ≡ labels_of xs ++ labels_of ys
labels-append [] ys = refl
labels-append (statements.Label n ∷ xs) ys = ap (λ ns. n ∷ ns) (labels-append xs ys)
labels-append (statements.Move k a ∷ xs) ys = labels-append xs ys
labels-append (statements.Operation k a o b ∷ xs) ys = labels-append xs ys
labels-append (statements.Read k ∷ xs) ys = labels-append xs ys
labels-append (statements.Write k a ∷ xs) ys = labels-append xs ys
labels-append (statements.Call k f vs ∷ xs) ys = labels-append xs ys
labels-append (statements.IfGoto a n ∷ xs) ys = labels-append xs ys
labels-append (statements.Goto n ∷ xs) ys = labels-append xs ys
labels-append (statements.Return a ∷ xs) ys = labels-append xs ys

-- the labels are l, l + 1 and so on, and n would be the next
abbrev Counts : ℕ → ℕ → List ℕ → Type 0
Counts l n ns = CountsFrom l ns × (l + length ns ≡ n)

abbrev Numbered : ℕ → ℕ → List Statement → Type 0
Numbered l n ss = Counts l n (labels_of ss)

-- what counts from m on goes behind what ends there
counts-append : (l m n : ℕ) (xs ys : List ℕ) → Counts l m xs → Counts m n ys → Counts l n (xs ++ ys)
counts-append l m n [] ys h g = let same : m ≡ l = omega (arith, h.1) in subst (λ k. Counts k n ys) same g
counts-append l m n (x ∷ xs) ys h g =
    let size : suc l + length xs ≡ m = omega (arith, h.1) in
    let tail = counts-append (suc l) m n xs ys (h.0.1, size) g in
    ((h.0.0, tail.0), omega (arith, tail.1))

numbered-append : (l m n : ℕ) (xs ys : List Statement) → Numbered l m xs → Numbered m n ys → Numbered l n (xs ++ ys)
numbered-append l m n xs ys h g = subst (Counts l n) (sym (labels-append xs ys)) (counts-append l m n (labels_of xs) (labels_of ys) h g)

-- no label, or one
unlabelled : (l : ℕ) → Counts l l []
unlabelled l = (tt, omega arith)

labelled : (l n : ℕ) (ss : List Statement) → Numbered (l + 1) n ss → Numbered l n (statements.Label l ∷ ss)
labelled l n ss h =
    let g = subst (λ k. Numbered k n ss) (add-one l) h in
    ((refl, g.0), omega (arith, g.1))

-- ---- the code of an expression

-- so many variables and labels, where the functions have the numbers of parameters of the procedures
abbrev declares : Named → ℕ → ℕ → Declared
declares w m n = record { variables = m; labels = n; functions = w.procedures }

-- the code names parameters, the variables and labels that it takes and functions that are there, and constants of 64 bits
record Formed (w : Named) (c : Coded) : Type 0 where
  declared : (k m l n : ℕ) → w.parameters ≤ k → k + c.size ≤ m → l + c.labels ≤ n → AllByRecursion (IsStatement (declares w m n)) (c.statements k l)
  atom : (k m : ℕ) → w.parameters ≤ k → k + c.size ≤ m → IsAtom m (c.atom k)
  numbered : (k l : ℕ) → Numbered l (l + c.labels) (c.statements k l)

module _ (w : Named) (a b : Coded) (ha : Formed w a) (hb : Formed w b) (o : BinaryOperator) where
  operation-declared : (k m l n : ℕ) → w.parameters ≤ k → k + (a.size + b.size + 1) ≤ m → l + (a.labels + b.labels) ≤ n → AllByRecursion (IsStatement (declares w m n)) (operation_code o a b k l)
  operation-declared k m l n lp le ll =
      all-append (IsStatement (declares w m n)) (a.statements k l) _ (ha.declared k m l n lp (omega arith) (omega arith))
      (all-append (IsStatement (declares w m n)) (b.statements (k + a.size) (l + a.labels)) _ (hb.declared (k + a.size) m (l + a.labels) n (omega arith) (omega arith) (omega arith))
      ((omega arith, ha.atom k m lp (omega arith), hb.atom (k + a.size) m (omega arith) (omega arith)), tt))

  operation-numbered : (k l : ℕ) → Numbered l (l + a.labels + b.labels) (operation_code o a b k l)
  operation-numbered k l =
      numbered-append l (l + a.labels) (l + a.labels + b.labels) (a.statements k l) _ (ha.numbered k l)
      (numbered-append (l + a.labels) (l + a.labels + b.labels) (l + a.labels + b.labels) (b.statements (k + a.size) (l + a.labels)) _ (hb.numbered (k + a.size) (l + a.labels)) (unlabelled (l + a.labels + b.labels)))

formed-operation : (w : Named) (p : Place) (o : Operator) (a b : Coded) → Formed w a → Formed w b → Formed w (coded_node (Expr-F.Operation p o a b))
formed-operation w p o a b ha hb = record {
  declared = operation-declared w a b ha hb (operator_of o);
  atom = λ k m lp le. omega arith;
  numbered = λ k l. (let same : l + a.labels + b.labels ≡ l + (a.labels + b.labels) = omega arith in subst (λ n. Numbered l n (operation_code (operator_of o) a b k l)) same (operation-numbered w a b ha hb (operator_of o) k l));
}

-- a branch, or an operand: its value goes to a variable
branch-declared : (w : Named) (e : Coded) → Formed w e → (k m l n target : ℕ) → target < m → w.parameters ≤ k → k + e.size ≤ m → l + e.labels ≤ n → AllByRecursion (IsStatement (declares w m n)) (branch_code e target k l)
branch-declared w e h k m l n target lt lp le ll = all-append (IsStatement (declares w m n)) (e.statements k l) _ (h.declared k m l n lp le ll) ((lt, h.atom k m lp le), tt)

branch-numbered : (w : Named) (e : Coded) → Formed w e → (k l target : ℕ) → Numbered l (l + e.labels) (branch_code e target k l)
branch-numbered w e h k l target = numbered-append l (l + e.labels) (l + e.labels) (e.statements k l) _ (h.numbered k l) (unlabelled (l + e.labels))

module _ (w : Named) (q : Comparison) (a b c d : Coded) (ha : Formed w a) (hb : Formed w b) (hc : Formed w c) (hd : Formed w d) where
  abbrev inner : ℕ → ℕ
  inner l = l + a.labels + b.labels

  abbrev target : ℕ → ℕ
  target k = k + a.size + b.size

  if-declared : (k m l n : ℕ) → w.parameters ≤ k → k + (a.size + b.size + 1 + d.size + c.size) ≤ m → l + (a.labels + b.labels + d.labels + 1 + c.labels + 1) ≤ n → AllByRecursion (IsStatement (declares w m n)) (if_code (comparison_of q) a b c d k l)
  if-declared k m l n lp le ll =
      let P = IsStatement (declares w m n) in
      all-append P (operation_code (comparison_of q) a b k l) _ (operation-declared w a b ha hb (comparison_of q) k m l n lp (omega arith) (omega arith)) (
        (omega arith, omega arith),
        all-append P (branch_code d (target k) (target k + 1) (inner l)) _ (branch-declared w d hd (target k + 1) m (inner l) n (target k) (omega arith) (omega arith) (omega arith) (omega arith)) (
          omega arith,
          (
            omega arith,
            all-append P (branch_code c (target k) (target k + 1 + d.size) (inner l + d.labels + 1)) _
                (branch-declared w c hc (target k + 1 + d.size) m (inner l + d.labels + 1) n (target k) (omega arith) (omega arith) (omega arith) (omega arith)) (omega arith, tt),
          ),
        ),
      )

  if-numbered : (k l : ℕ) → Numbered l (inner l + d.labels + 1 + c.labels + 1) (if_code (comparison_of q) a b c d k l)
  if-numbered k l =
      let between = inner l + d.labels in
      let end = between + 1 + c.labels in
      let C = branch_code c (target k) (target k + 1 + d.size) (between + 1) in
      let D = branch_code d (target k) (target k + 1) (inner l) in
      let last : List Statement = statements.Label end ∷ [] in
      let mid : List Statement = statements.Goto end ∷ statements.Label between ∷ (C ++ last) in
      numbered-append l (inner l) (end + 1) (operation_code (comparison_of q) a b k l) (statements.IfGoto _ between ∷ (D ++ mid)) (operation-numbered w a b ha hb (comparison_of q) k l)
      (numbered-append (inner l) between (end + 1) D mid (branch-numbered w d hd (target k + 1) (inner l) (target k))
      (labelled between (end + 1) (C ++ last)
      (numbered-append (between + 1) end (end + 1) C last (branch-numbered w c hc (target k + 1 + d.size) (between + 1) (target k))
      (labelled end (end + 1) [] (unlabelled (end + 1))))))

  formed-if : (p at : Place) → Formed w (coded_node (Expr-F.If p at q a b c d))
  formed-if p at = record {
    declared = if-declared;
    atom = λ k m lp le. omega arith;
    numbered = λ k l. (let same : inner l + d.labels + 1 + c.labels + 1 ≡ l + (a.labels + b.labels + d.labels + 1 + c.labels + 1) = omega arith in subst (λ n. Numbered l n (if_code (comparison_of q) a b c d k l)) same (if-numbered k l));
  }

-- ---- the code of the operands of a call

-- the same of the operands together
record FormedOperands (w : Named) (cs : List Coded) : Type 0 where
  declared : (k m l n : ℕ) → w.parameters ≤ k → k + operands_size cs ≤ m → l + operands_labels cs ≤ n → AllByRecursion (IsStatement (declares w m n)) (operands_code cs k l)
  numbered : (k l : ℕ) → Numbered l (l + operands_labels cs) (operands_code cs k l)

formed-operand : (w : Named) (c : Coded) (cs : List Coded) → Formed w c → FormedOperands w cs → FormedOperands w (c ∷ cs)
formed-operand w c cs h hs = record {
  declared = λ k m l n lp le ll.
      all-append (IsStatement (declares w m n)) (branch_code c (k + c.size) k l) _
      (branch-declared w c h k m l n (k + c.size) (omega arith) lp (omega arith) (omega arith))
      (hs.declared (k + (c.size + 1)) m (l + c.labels) n (omega arith) (omega arith) (omega arith));
  numbered = λ k l.
      let mid = l + c.labels in
      let end = l + (c.labels + operands_labels cs) in
      let same : mid + operands_labels cs ≡ end = omega arith in
      let others = operands_code cs (k + (c.size + 1)) mid in
      numbered-append l mid end (branch_code c (k + c.size) k l) others (branch-numbered w c h k l (k + c.size))
      (subst (λ n. Numbered mid n others) same (hs.numbered (k + (c.size + 1)) mid));
}

-- the arguments are variables that the operands take, one for each
places-declared : (cs : List Coded) (k m : ℕ) → k + operands_size cs ≤ m → AllByRecursion (λ v. v < m) (operands_places cs k)
places-declared [] k m le = tt
places-declared (c ∷ cs) k m le = (omega arith, places-declared cs (k + (c.size + 1)) m (omega arith))

length-places : (cs : List Coded) (k : ℕ) → length (operands_places cs k) ≡ length cs
length-places [] k = refl
length-places (c ∷ cs) k = ap suc (length-places cs (k + (c.size + 1)))

formed-call : (w : Named) (p at : Place) (f : ℕ) (cs : List Coded) → FormedOperands w cs → slice_get w.procedures f ≡ Some (length cs) → Formed w (coded_node (Expr-F.Call p at f cs))
formed-call w p at f cs hs arity = record {
  declared = λ k m l n lp le ll.
      all-append (IsStatement (declares w m n)) (operands_code cs k l) _ (hs.declared k m l n lp (omega arith) ll)
      ((omega arith, places-declared cs k m (omega arith), arity ∙ ap Some (sym (length-places cs k))), tt);
  atom = λ k m lp le. omega arith;
  numbered = λ k l. numbered-append l (l + operands_labels cs) (l + operands_labels cs) (operands_code cs k l) _ (hs.numbered k l) (unlabelled (l + operands_labels cs));
}

-- ---- a valid expression

-- what the tests say
word : (i : ℤ) → is_word i ≡ true → IsWord i
word (pos n) h = ltb-true n 9223372036854775808 h
word (negsuc n) h = ltb-true n 9223372036854775808 h

arity-is : (n : ℕ) (o : Option ℕ) → has_arity n o ≡ true → o ≡ Some n
arity-is n None h = absurd cc
arity-is n (Some m) h = ap Some (eqb-true m n h)

module _ (w : Named) where
  -- the code of the expression is formed, if it is valid
  abbrev FormedIfValid : Expr → Type 0
  FormedIfValid e = valid w e ≡ true → Formed w (coded e)

  -- what is said of a node is said of the expression
  by-clauses : (e : Expr) (c : Coded) (b : Bool) → coded e ≡ c → valid w e ≡ b → (b ≡ true → Formed w c) → FormedIfValid e
  by-clauses e c b is valid_is h holds = subst (Formed w) (sym is) (h (sym valid_is ∙ holds))

  formed-operands : (es : List Expr) → AllByRecursion FormedIfValid es → all_true (map (valid w) es) ≡ true → FormedOperands w (map coded es)
  formed-operands [] hs holds = record { declared = λ k m l n lp le ll. tt; numbered = λ k l. (tt, refl) }
  formed-operands (e ∷ es) hs holds =
      let parts = and_parts (valid w e) (all_true (map (valid w) es)) holds in
      formed-operand w (coded e) (map coded es) (hs.0 parts.0) (formed-operands es hs.1 parts.1)

  valid-integer : (p : Place) (i : ℤ) → is_word i ≡ true → Formed w (coded_node (Expr-F.Integer p i))
  valid-integer p i holds = record { declared = λ k m l n lp le ll. tt; atom = λ k m lp le. word i holds; numbered = λ k l. (tt, refl) }

  valid-parameter : (p : Place) (i : ℕ) → valid_node w (Expr-F.Parameter p i) ≡ true → Formed w (coded_node (Expr-F.Parameter p i))
  valid-parameter p i holds =
      let lt = ltb-true i w.parameters holds in
      record { declared = λ k m l n lp le ll. tt; atom = λ k m lp le. omega arith; numbered = λ k l. (tt, refl) }

  valid-operation : (p : Place) (o : Operator) (a b : Expr) → FormedIfValid a → FormedIfValid b → valid_node w (Expr-F.Operation p o (valid w a) (valid w b)) ≡ true → Formed w (coded_node (Expr-F.Operation p o (coded a) (coded b)))
  valid-operation p o a b ha hb holds =
      let parts = and_parts (valid w a) (valid w b) holds in
      formed-operation w p o (coded a) (coded b) (ha parts.0) (hb parts.1)

  valid-if : (p at : Place) (q : Comparison) (a b c d : Expr) → FormedIfValid a → FormedIfValid b → FormedIfValid c → FormedIfValid d
      → valid_node w (Expr-F.If p at q (valid w a) (valid w b) (valid w c) (valid w d)) ≡ true → Formed w (coded_node (Expr-F.If p at q (coded a) (coded b) (coded c) (coded d)))
  valid-if p at q a b c d ha hb hc hd holds =
      let last = and_parts (valid w a && valid w b && valid w c) (valid w d) holds in
      let third = and_parts (valid w a && valid w b) (valid w c) last.0 in
      let first = and_parts (valid w a) (valid w b) third.0 in
      formed-if w q (coded a) (coded b) (coded c) (coded d) (ha first.0) (hb first.1) (hc third.1) (hd last.1) p at

  valid-call : (p at : Place) (f : ℕ) (es : List Expr) → AllByRecursion FormedIfValid es → valid_node w (Expr-F.Call p at f (map (valid w) es)) ≡ true → Formed w (coded_node (Expr-F.Call p at f (map coded es)))
  valid-call p at f es hs holds =
      let parts = and_parts (has_arity (length (map (valid w) es)) (slice_get w.procedures f)) (all_true (map (valid w) es)) holds in
      let arity = arity-is (length (map (valid w) es)) (slice_get w.procedures f) parts.0 in
      let same : length (map (valid w) es) ≡ length (map coded es) = length-map es (valid w) ∙ sym (length-map es coded) in
      formed-call w p at f (map coded es) (formed-operands es hs parts.1) (arity ∙ ap Some same)

  valid-read : (p : Place) → Formed w (coded_node (Expr-F.ReadByte p))
  valid-read p = record { declared = λ k m l n lp le ll. (omega arith, tt); atom = λ k m lp le. omega arith; numbered = λ k l. (tt, refl) }

  formed : (e : Expr) → FormedIfValid e
  formed = induction FormedIfValid
      (λ p i. by-clauses (exprs.Integer p i) _ _ (fold-integer coded_node p i) (fold-integer (valid_node w) p i) (valid-integer p i))
      (λ p i. by-clauses (exprs.Parameter p i) _ _ (fold-parameter coded_node p i) (fold-parameter (valid_node w) p i) (valid-parameter p i))
      (λ p o a b ha hb. by-clauses (exprs.Operation p o a b) _ _ (fold-operation coded_node p o a b) (fold-operation (valid_node w) p o a b) (valid-operation p o a b ha hb))
      (λ p at q a b c d ha hb hc hd. by-clauses (exprs.If p at q a b c d) _ _ (fold-if coded_node p at q a b c d) (fold-if (valid_node w) p at q a b c d) (valid-if p at q a b c d ha hb hc hd))
      (λ p at f es hs. by-clauses (exprs.Call p at f es) _ _ (fold-call coded_node p at f es) (fold-call (valid_node w) p at f es) (valid-call p at f es hs))
      (λ p. by-clauses (exprs.ReadByte p) _ _ (fold-read coded_node p) (fold-read (valid_node w) p) (λ holds. valid-read p))

-- ---- the code of the writes

-- the same of the writes together
record FormedWrites (w : Named) (es : List Write) : Type 0 where
  declared : (k m l n : ℕ) → w.parameters ≤ k → k + writes_size es ≤ m → l + writes_labels es ≤ n → AllByRecursion (IsStatement (declares w m n)) (writes_code es k l)
  numbered : (k l : ℕ) → Numbered l (l + writes_labels es) (writes_code es k l)

formed-more : (w : Named) (x : Write) (es : List Write) → Formed w (coded x.value) → FormedWrites w es → FormedWrites w (x ∷ es)
formed-more w x es h hs = record {
  declared = λ k m l n lp le ll.
      let c = coded x.value in
      all-append (IsStatement (declares w m n)) (c.statements k l ++ (statements.Write (k + c.size) (c.atom k) ∷ [])) _
      (all-append (IsStatement (declares w m n)) (c.statements k l) _ (h.declared k m l n lp (omega arith) (omega arith)) ((omega arith, h.atom k m lp (omega arith)), tt))
      (hs.declared (k + (c.size + 1)) m (l + c.labels) n (omega arith) (omega arith) (omega arith));
  numbered = λ k l.
      let c = coded x.value in
      let mid = l + c.labels in
      let end = l + (c.labels + writes_labels es) in
      let same : mid + writes_labels es ≡ end = omega arith in
      let others = writes_code es (k + (c.size + 1)) mid in
      numbered-append l mid end (c.statements k l ++ (statements.Write (k + c.size) (c.atom k) ∷ [])) others
      (numbered-append l mid mid (c.statements k l) _ (h.numbered k l) (unlabelled mid))
      (subst (λ n. Numbered mid n others) same (hs.numbered (k + (c.size + 1)) mid));
}

formed-writes : (w : Named) (es : List Write) → AllByRecursion (λ (x : Write). valid w x.value ≡ true) es → FormedWrites w es
formed-writes w [] hs = record { declared = λ k m l n lp le ll. tt; numbered = λ k l. (tt, refl) }
formed-writes w (x ∷ es) hs = formed-more w x es (formed w x.value hs.0) (formed-writes w es hs.1)

-- ---- a function

-- what ends in a return ends well
ends-well : (ss : List Statement) (x : Atom) → EndsWell (ss ++ statements.Return x ∷ [])
ends-well [] x = tt
ends-well (statements.Move k a ∷ []) x = tt
ends-well (statements.Operation k a o b ∷ []) x = tt
ends-well (statements.Read k ∷ []) x = tt
ends-well (statements.Write k a ∷ []) x = tt
ends-well (statements.Call k f vs ∷ []) x = tt
ends-well (statements.IfGoto a n ∷ []) x = tt
ends-well (statements.Goto n ∷ []) x = tt
ends-well (statements.Label n ∷ []) x = tt
ends-well (statements.Return a ∷ []) x = tt
ends-well (s ∷ t ∷ ss) x = ends-well (t ∷ ss) x

-- the function of a valid procedure that is not too large
formed-function : (arities : List ℕ) (q : Procedure) → IsProcedure arities q → procedure_size q < 2 ^ 32 → IsFunction arities (function_of q)
formed-function arities q h lt =
    let w = named_in arities q in
    let bound = procedure-small q in
    let k = q.parameters + writes_size q.writes in
    let l = writes_labels q.writes in
    let m = q.parameters + (writes_size q.writes + (coded q.value).size) in
    let n = l + (coded q.value).labels in
    let ws = formed-writes w q.writes h.writes in
    let v = formed w q.value h.value in
    let W = writes_code q.writes q.parameters 0 in
    let V = (coded q.value).statements k l in
    let R : List Statement = statements.Return ((coded q.value).atom k) ∷ [] in
    let zero-first : 0 + writes_labels q.writes ≡ l = omega arith in
    let counts : Numbered 0 n (W ++ (V ++ R)) = numbered-append 0 l n W (V ++ R) (subst (λ x. Numbered 0 x W) zero-first (ws.numbered q.parameters 0)) (numbered-append l n n V R (v.numbered k l) (unlabelled n)) in
    let number : length (labels_of (W ++ (V ++ R))) ≡ n = omega (arith, counts.1) in
    record {
      few_parameters = h.few;
      few_variables = omega (arith, bound.0);
      few_labels = omega (arith, bound.1);
      labels = counts.0;
      declared = subst (λ x. AllByRecursion (IsStatement (declares w m x)) (W ++ (V ++ R))) (sym number)
          (all-append (IsStatement (declares w m n)) W (V ++ R) (ws.declared q.parameters m 0 n (omega arith) (omega arith) (omega arith))
          (all-append (IsStatement (declares w m n)) V R (v.declared k m l n (omega arith) (omega arith) (omega arith)) (v.atom k m (omega arith) (omega arith), tt)));
      returns = subst EndsWell (append_assoc W V R) (ends-well (W ++ V) ((coded q.value).atom k));
    }

formed-functions : (arities : List ℕ) (qs : List Procedure) → AllByRecursion (IsProcedure arities) qs → sum_of (map procedure_size qs) < 2 ^ 32 → AllByRecursion (IsFunction arities) (map function_of qs)
formed-functions arities [] hs lt = tt
formed-functions arities (q ∷ qs) hs lt = (formed-function arities q hs.0 (omega arith), formed-functions arities qs hs.1 (omega arith))

-- ---- the unit

-- each function has the parameters of its procedure
same-arities : (qs : List Procedure) → map (λ q. q.parameters) qs ≡ map (λ f. f.parameters) (map function_of qs)
same-arities [] = refl
same-arities (q ∷ qs) = ap (λ ns. q.parameters ∷ ns) (same-arities qs)

-- each procedure counts
few-procedures : (qs : List Procedure) → length qs ≤ sum_of (map procedure_size qs)
few-procedures [] = omega arith
few-procedures (q ∷ qs) = omega (arith, few-procedures qs)

pub well-formed : (p : Program) → IsValid p → program_size p + 1 < 2 ^ 32 → IsWellFormed (unit_of p)
well-formed p h lt =
    let same = same-arities p.procedures in
    record {
      few = omega (arith, few-procedures p.procedures, length-map p.procedures function_of);
      main = ap (λ ns. slice_get ns 0) (sym same) ∙ h.main;
      functions = subst (λ ns. AllByRecursion (IsFunction ns) (map function_of p.procedures)) same (formed-functions _ p.procedures h.procedures (omega arith));
    }

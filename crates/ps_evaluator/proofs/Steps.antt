-- One more turn of a loop over a list.
-- For: loops over lists in `literals` and `programs`
use Rattle.std.proofs.Common.{◌≡◌, ℕ, suc, ◌+◌, ◌<◌, ◌≤◌, List, [], ◌∷◌, ◌++◌, length, map, take, drop, get_or, Option, refl, sym, ap, ◌∙◌, append-nil, arith, length-append}
use Rattle.std.specs.Prelude.{if◌then◌else◌}
use Rattle.std.proofs.lemmas.List.{map_more}
use Rattle.std.proofs.lemmas.Bool.{eq-eqb}
use Rattle.byte_store.specs.declared.pointer.Value.{Value}
use Rattle.ps_kernel.specs.declared.expr.Expr.{Expr}
use Rattle.ps_kernel.specs.declared.kernel.Form.{Form}
use Rattle.ps_kernel.specs.declared.kernel.Form.TheVariants.{Define}
use Rattle.ps_kernel.specs.declared.kernel.Kernel.{Kernel}
use Rattle.ps_kernel.specs.Texts.{defined_by, lambda_in, procedure_of}
use Rattle.ps_meaning.specs.Literals.{Laid, lay_parts}
use Rattle.ps_meaning.specs.Source.{run_global, run_globals}

-- the blocks of one more part
laid_append : (xs : List (ℕ → Laid)) (x : ℕ → Laid) (n : ℕ) → length (lay_parts (xs ++ x ∷ []) n).blocks ≡ length (lay_parts xs n).blocks + length (x (n + length (lay_parts xs n).blocks)).blocks
laid_append [] x n = let e : n + 0 ≡ n = omega arith in rw e (ap length (append-nil (x n).blocks) ∙ (let z : length (x n).blocks ≡ 0 + length (x n).blocks = omega arith in z))
laid_append (y ∷ ys) x n =
    let h = laid_append ys x (n + length (y n).blocks) in
    let e : n + length (y n).blocks + length (lay_parts ys (n + length (y n).blocks)).blocks ≡ n + (length (y n).blocks + length (lay_parts ys (n + length (y n).blocks)).blocks) = omega arith in
    length-append (y n).blocks (lay_parts (ys ++ x ∷ []) (n + length (y n).blocks)).blocks
    ∙ ap (λ z. length (y n).blocks + z) h
    ∙ (let a : length (y n).blocks + (length (lay_parts ys (n + length (y n).blocks)).blocks + length (x (n + length (y n).blocks + length (lay_parts ys (n + length (y n).blocks)).blocks)).blocks) ≡ length (y n).blocks + length (lay_parts ys (n + length (y n).blocks)).blocks + length (x (n + length (y n).blocks + length (lay_parts ys (n + length (y n).blocks)).blocks)).blocks = omega arith in a)
    ∙ ap (λ z. length (y n).blocks + length (lay_parts ys (n + length (y n).blocks)).blocks + length (x z).blocks) e
    ∙ ap (λ z. z + length (x (n + z)).blocks) (sym (length-append (y n).blocks (lay_parts ys (n + length (y n).blocks)).blocks))

pub laid_more : {D : Type 0} (laid : D → ℕ → Laid) (ds : List D) (i : ℕ) (d : D) (n end new : ℕ)
    → i < length ds → d ≡ get_or ds i d → end ≡ n + length (lay_parts (map laid (take i ds)) n).blocks → new ≡ end + length (laid d end).blocks
    → new ≡ n + length (lay_parts (map laid (take (i + 1) ds)) n).blocks
laid_more laid ds i d n end new lt is so_far on =
    let more = laid_append (map laid (take i ds)) (laid d) n in
    let all : map laid (take (i + 1) ds) ≡ map laid (take i ds) ++ laid d ∷ [] = map_more laid ds i d lt ∙ ap (λ z. map laid (take i ds) ++ laid z ∷ []) (sym is) in
    on
    ∙ ap (λ z. z + length (laid d z).blocks) so_far
    ∙ (let a : n + length (lay_parts (map laid (take i ds)) n).blocks + length (laid d (n + length (lay_parts (map laid (take i ds)) n).blocks)).blocks ≡ n + (length (lay_parts (map laid (take i ds)) n).blocks + length (laid d (n + length (lay_parts (map laid (take i ds)) n).blocks)).blocks) = omega arith in a)
    ∙ ap (λ z. n + z) (sym more)
    ∙ ap (λ z. n + length (lay_parts z n).blocks) (sym all)

-- the value at run time of one more definition
globals_append : (k : Kernel) (g : ℕ) (vs : List (Option Value)) (v : Option Value) → run_globals k g (vs ++ v ∷ []) ≡ run_globals k g vs ++ run_global (procedure_of k (g + length vs)) v ∷ []
globals_append k g [] v = let e : g + 0 ≡ g = omega arith in ap (λ z. run_global (procedure_of k z) v ∷ []) (sym e)
globals_append k g (w ∷ ws) v =
    let e : suc g + length ws ≡ g + suc (length ws) = omega arith in
    ap (λ z. run_global (procedure_of k g) w ∷ z) (globals_append k (suc g) ws v ∙ ap (λ z. run_globals k (suc g) ws ++ run_global (procedure_of k z) v ∷ []) e)

map_same : {A : Type 0} (xs : List A) → map (λ x. x) xs ≡ xs
map_same [] = refl
map_same (x ∷ xs) = ap (λ z. x ∷ z) (map_same xs)

pub take_more : {A : Type 0} (xs : List A) (i : ℕ) (d : A) → i < length xs → take (i + 1) xs ≡ take i xs ++ get_or xs i d ∷ []
take_more xs i d lt = sym (map_same (take (i + 1) xs)) ∙ map_more (λ x. x) xs i d lt ∙ ap (λ z. z ++ get_or xs i d ∷ []) (map_same (take i xs))

pub globals_more : (k : Kernel) (vs : List (Option Value)) (i : ℕ) (d : Option Value) → i < length vs → length (take i vs) ≡ i → run_globals k 0 (take (i + 1) vs) ≡ run_globals k 0 (take i vs) ++ run_global (procedure_of k i) (get_or vs i d) ∷ []
globals_more k vs i d lt len =
    let e : 0 + length (take i vs) ≡ i = omega (arith, len) in
    ap (run_globals k 0) (take_more vs i d lt) ∙ globals_append k 0 (take i vs) (get_or vs i d) ∙ ap (λ z. run_globals k 0 (take i vs) ++ run_global (procedure_of k z) (get_or vs i d) ∷ []) e

front : {A : Type 0} (xs : List A) (d : A) → 1 ≤ length xs → d ≡ get_or xs 0 d → xs ≡ d ∷ drop 1 xs
front [] d some is = absurd (omega (arith, some))
front (x ∷ xs) d some is = ap (λ z. z ∷ xs) (sym is)

pub defined_here : (g d : ℕ) (e : Expr) (fs : List Form) (f : Form) → 1 ≤ length fs → f ≡ get_or fs 0 f → f ≡ Define d e → g ≡ d → lambda_in e ≡ defined_by g fs
defined_here g d e fs f some is defines same =
    sym (ap (defined_by g) (front fs f some is ∙ ap (λ z. z ∷ drop 1 fs) defines) ∙ ap (λ b. if b then lambda_in e else defined_by g (drop 1 fs)) (eq-eqb g d same))

-- The cells of literals are paid for one after another, and their blocks laid one behind another.
-- For: the functions of `literals`
use Rattle.std.proofs.Common.{◌≡◌, ℕ, zero, suc, ◌+◌, ◌-◌, ◌/◌, ◌<◌, ◌≤◌, max, nat_le, Bool, true, false, List, [], ◌∷◌, ◌++◌, length, map, drop, get_or, Option, Some, None, refl, sym, ap, ◌∙◌, arith, length-append}
use Rattle.std.specs.Prelude.{if◌then◌else◌}
use Rattle.std.proofs.lemmas.Bool.{leb-true}
use Rattle.byte_store.specs.declared.pointer.Value.{Value}
use Rattle.byte_store.specs.Blocks.{Block, Bytes, Cells, Memory, next_number}
use Rattle.byte_store.specs.Operations.{fixed}
use Rattle.ps_prims.specs.Cells.{cells_of, cells_in}
use Rattle.ps_datum.specs.declared.datum.Datum.{Datum, fold_out-Datum}
use Rattle.ps_datum.specs.declared.datum.DatumKind.{DatumKind, fold-DatumKind}
use Rattle.ps_datum.specs.declared.datum.DatumKind.TheOpen.{DatumKind-F}
use Rattle.ps_datum.specs.declared.datum.DatumKind.TheVariants as kind
use Rattle.ps_datum.proofs.Trees.{fold-text, fold-vector}
use Rattle.ps_meaning.specs.Literals.{Laid, lay_node, lay_parts, laid, numbered}
use Rattle.ps_static_eval.specs.InsideLaying.{filled, left_after, text_block, vector_block}
use Rattle.ps_static_eval.proofs.PrimitivesAreCounted.{small, great}

-- ---- what is left of cells

more : (a b : ℕ) → nat_le a b ≡ false → b < a
more a b is = grind (arith, is)

abbrev pub choose : Bool → ℕ → Option ℕ
choose t r = if t then Some r else None

pub some_is : (t : Bool) (r x : ℕ) → Some r ≡ choose t x → (t ≡ true) × (r ≡ x)
some_is true r x is = (refl, cc)
some_is false r x is = absurd (cc)

pub none_is : (t : Bool) (x : ℕ) → None ≡ choose t x → t ≡ false
none_is true x is = absurd (cc)
none_is false x is = refl

paid : (a b c r : ℕ) → Some r ≡ left_after a c → left_after (a + b) c ≡ left_after b r
paid a b c r is = go (nat_le b r) refl
  where
    le : a ≤ c
    le = leb-true a c (some_is (nat_le a c) r (c - a) is).0

    rest : r ≡ c - a
    rest = (some_is (nat_le a c) r (c - a) is).1

    go : (t : Bool) → nat_le b r ≡ t → left_after (a + b) c ≡ choose t (r - b)
    go true fits =
        let few : b ≤ r = leb-true b r fits in
        let same : c - (a + b) ≡ r - b = omega (arith, le, rest) in
        ap (λ t. choose t (c - (a + b))) (small (a + b) c (omega (arith, few, le, rest))) ∙ ap (λ (z : ℕ). Some z) same
    go false over = ap (λ t. choose t (c - (a + b))) (great (a + b) c (omega (arith, more b r over, le, rest)))

unpaid : (a b c : ℕ) → None ≡ left_after a c → left_after (a + b) c ≡ None
unpaid a b c is = ap (λ t. choose t (c - (a + b))) (great (a + b) c (omega (arith, more a c (none_is (nat_le a c) (c - a) is))))

nothing_paid : (c : ℕ) → left_after 0 c ≡ Some c
nothing_paid c = let same : c - 0 ≡ c = omega arith in ap (λ t. choose t (c - 0)) (small 0 c (omega arith)) ∙ ap (λ (z : ℕ). Some z) same

cells_append : (xs ys : List (Block Value)) → cells_in (xs ++ ys) ≡ cells_in xs + cells_in ys
cells_append [] ys = let none : cells_in ys ≡ 0 + cells_in ys = omega arith in none
cells_append (x ∷ xs) ys =
    let assoc : cells_of x + (cells_in xs + cells_in ys) ≡ cells_of x + cells_in xs + cells_in ys = omega arith in
    ap (λ z. cells_of x + z) (cells_append xs ys) ∙ assoc

-- ---- lists

drop_here : {A : Type 0} (xs : List A) (i : ℕ) (x : A) → i < length xs → x ≡ get_or xs i x → drop i xs ≡ x ∷ drop (i + 1) xs
drop_here [] i x lt is = absurd (omega (arith, lt))
drop_here (y ∷ xs) zero x lt is = ap (λ z. z ∷ xs) (sym is)
drop_here (y ∷ xs) (suc i) x lt is = drop_here xs i x (omega (arith, lt)) is ∙ (let e : suc (i + 1) ≡ suc i + 1 = omega arith in ap (λ z. x ∷ drop z (y ∷ xs)) e)

drop_all : {A : Type 0} (xs : List A) (i : ℕ) → length xs ≤ i → drop i xs ≡ []
drop_all [] zero le = refl
drop_all [] (suc i) le = refl
drop_all (x ∷ xs) zero le = absurd (omega (arith, le))
drop_all (x ∷ xs) (suc i) le = drop_all xs i (omega (arith, le))

length_some : {A : Type 0} (xs : List A) → length (map (λ (x : A). Some x) xs) ≡ length xs
length_some [] = refl
length_some (x ∷ xs) = ap suc (length_some xs)

values_length : (ds : List Datum) (n : ℕ) → length (lay_parts (map laid ds) n).values ≡ length ds
values_length [] n = refl
values_length (d ∷ ds) n = ap suc (values_length ds (n + length (laid d n).blocks))

-- ---- one literal

laid_at : (d : Datum) (x : DatumKind) → d.kind ≡ x → laid d ≡ fold-DatumKind (ℕ → Laid) (ℕ → Laid) lay_node (λ d. d.kind) x
laid_at d x is = fold_out-Datum (ℕ → Laid) (ℕ → Laid) lay_node (λ d. d.kind) d ∙ ap (fold-DatumKind (ℕ → Laid) (ℕ → Laid) lay_node (λ d. d.kind)) is

laid_text : (d : Datum) (bytes : List ℕ) → d.kind ≡ kind.Text bytes → laid d ≡ lay_node (DatumKind-F.Text bytes)
laid_text d bytes is = laid_at d (kind.Text bytes) is ∙ fold-text lay_node (λ d. d.kind) bytes

laid_vector : (d : Datum) (ds : List Datum) → d.kind ≡ kind.Vector ds → laid d ≡ lay_node (DatumKind-F.Vector (map laid ds))
laid_vector d ds is = laid_at d (kind.Vector ds) is ∙ fold-vector lay_node (λ d. d.kind) ds

pub text_paid : (d : Datum) (bytes : List ℕ) (n len cells : ℕ) (o : Option ℕ) → d.kind ≡ kind.Text bytes → len ≡ length bytes → o ≡ left_after (len / 8 + 1) cells → o ≡ left_after (cells_in (laid d n).blocks) cells
text_paid d bytes n len cells o is long by =
    let all : length (map (λ (x : ℕ). Some x) (bytes ++ 0 ∷ [])) ≡ len + 1 = length_some (bytes ++ 0 ∷ []) ∙ length-append bytes (0 ∷ []) ∙ ap (λ z. z + 1) (sym long) in
    let same : len / 8 + 1 ≡ (len + 1 + 7) / 8 + 0 = omega arith in
    by
    ∙ ap (λ z. left_after z cells) same
    ∙ ap (λ z. left_after ((z + 7) / 8 + 0) cells) (sym all)
    ∙ ap (λ (l : ℕ → Laid). left_after (cells_in (l n).blocks) cells) (sym (laid_text d bytes is))

vector_cells : (d : Datum) (ds : List Datum) (n : ℕ) → d.kind ≡ kind.Vector ds → cells_in (laid d n).blocks ≡ length ds + cells_in (lay_parts (map laid ds) (suc n)).blocks
vector_cells d ds n is =
    ap (λ (l : ℕ → Laid). cells_in (l n).blocks) (laid_vector d ds is)
    ∙ ap (λ z. z + cells_in (lay_parts (map laid ds) (suc n)).blocks) (length_some (lay_parts (map laid ds) (suc n)).values ∙ values_length ds (suc n))

pub vector_paid : (d : Datum) (ds : List Datum) (n len cells left : ℕ) (o : Option ℕ) → d.kind ≡ kind.Vector ds → len ≡ length ds → Some left ≡ left_after len cells
    → o ≡ left_after (cells_in (lay_parts (map laid ds) (suc n)).blocks) left → o ≡ left_after (cells_in (laid d n).blocks) cells
vector_paid d ds n len cells left o is long first others =
    let parts = cells_in (lay_parts (map laid ds) (suc n)).blocks in
    others ∙ sym (paid len parts cells left first) ∙ ap (λ z. left_after (z + parts) cells) long ∙ ap (λ z. left_after z cells) (sym (vector_cells d ds n is))

pub vector_unpaid : (d : Datum) (ds : List Datum) (n len cells : ℕ) → d.kind ≡ kind.Vector ds → len ≡ length ds → None ≡ left_after len cells → None ≡ left_after (cells_in (laid d n).blocks) cells
vector_unpaid d ds n len cells is long none =
    let parts = cells_in (lay_parts (map laid ds) (suc n)).blocks in
    sym (unpaid len parts cells none) ∙ ap (λ z. left_after (z + parts) cells) long ∙ ap (λ z. left_after z cells) (sym (vector_cells d ds n is))

-- ---- literals in order

here : (ds : List Datum) (i m : ℕ) (d : Datum) → i < length ds → d ≡ get_or ds i d
    → cells_in (lay_parts (map laid (drop i ds)) m).blocks ≡ cells_in (laid d m).blocks + cells_in (lay_parts (map laid (drop (i + 1) ds)) (m + length (laid d m).blocks)).blocks
here ds i m d lt is =
    ap (λ z. cells_in (lay_parts (map laid z) m).blocks) (drop_here ds i d lt is)
    ∙ cells_append (laid d m).blocks (lay_parts (map laid (drop (i + 1) ds)) (m + length (laid d m).blocks)).blocks

pub each_paid : (ds : List Datum) (i m : ℕ) (d : Datum) (left rest : ℕ) → i < length ds → d ≡ get_or ds i d → Some rest ≡ left_after (cells_in (laid d m).blocks) left
    → left_after (cells_in (lay_parts (map laid (drop (i + 1) ds)) (m + length (laid d m).blocks)).blocks) rest ≡ left_after (cells_in (lay_parts (map laid (drop i ds)) m).blocks) left
each_paid ds i m d left rest lt is first =
    sym (ap (λ z. left_after z left) (here ds i m d lt is) ∙ paid (cells_in (laid d m).blocks) (cells_in (lay_parts (map laid (drop (i + 1) ds)) (m + length (laid d m).blocks)).blocks) left rest first)

pub each_unpaid : (ds : List Datum) (i m : ℕ) (d : Datum) (left : ℕ) → i < length ds → d ≡ get_or ds i d → None ≡ left_after (cells_in (laid d m).blocks) left
    → None ≡ left_after (cells_in (lay_parts (map laid (drop i ds)) m).blocks) left
each_unpaid ds i m d left lt is none =
    sym (ap (λ z. left_after z left) (here ds i m d lt is) ∙ unpaid (cells_in (laid d m).blocks) (cells_in (lay_parts (map laid (drop (i + 1) ds)) (m + length (laid d m).blocks)).blocks) left none)

pub all_paid : (ds : List Datum) (i m left : ℕ) → length ds ≤ i → Some left ≡ left_after (cells_in (lay_parts (map laid (drop i ds)) m).blocks) left
all_paid ds i m left le = sym (ap (λ z. left_after (cells_in (lay_parts (map laid z) m).blocks) left) (drop_all ds i le) ∙ nothing_paid left)

-- ---- blocks

numbered_more : {A : Type 0} (n : ℕ) (xs : List A) (y : A) → numbered n (xs ++ y ∷ []) ≡ numbered n xs ++ (n + length xs, y) ∷ []
numbered_more n [] y = let none : n ≡ n + 0 = omega arith in ap (λ z. (z, y) ∷ []) none
numbered_more n (x ∷ xs) y =
    let on : suc n + length xs ≡ n + suc (length xs) = omega arith in
    ap (λ z. (n, x) ∷ z) (numbered_more (suc n) xs y ∙ ap (λ z. numbered (suc n) xs ++ (z, y) ∷ []) on)

next_on : {A : Type 0} (n : ℕ) (x : A) (xs : List A) → next_number (numbered n (x ∷ xs)) ≡ suc n + length xs
next_on n x [] = let one : max (suc n) 0 ≡ suc n + 0 = omega arith in one
next_on n x (y ∷ ys) = let last : max (suc n) (suc (suc n) + length ys) ≡ suc n + suc (length ys) = omega arith in ap (λ z. max (suc n) z) (next_on (suc n) y ys) ∙ last

next_of : {A : Type 0} (xs : List A) → next_number (numbered 0 xs) ≡ length xs
next_of [] = refl
next_of (x ∷ xs) = next_on 0 x xs ∙ (let e : suc 0 + length xs ≡ suc (length xs) = omega arith in e)

pub filled_more : (m m' : Memory Value) (bs : List (Block Value)) (n : ℕ) (b : Block Value) → n ≡ next_number m.fixed → m' ≡ fixed m n b → m ≡ filled bs → m' ≡ filled (bs ++ b ∷ [])
filled_more m m' bs n b next is full =
    let at : n ≡ length bs = next ∙ ap (λ (z : Memory Value). next_number z.fixed) full ∙ next_of bs in
    let zero_on : length bs ≡ 0 + length bs = omega arith in
    is
    ∙ ap (λ z. fixed z n b) full
    ∙ ap (λ z. fixed (filled bs) z b) (at ∙ zero_on)
    ∙ ap (λ z. record { fixed = z; made = [] }) (sym (numbered_more 0 bs b))

pub number_of : (m : Memory Value) (bs : List (Block Value)) (n : ℕ) → n ≡ next_number m.fixed → m ≡ filled bs → n ≡ length bs
number_of m bs n next full = next ∙ ap (λ (z : Memory Value). next_number z.fixed) full ∙ next_of bs

pub text_filled : (m m' : Memory Value) (bs : List (Block Value)) (n : ℕ) (bytes all : List ℕ) → n ≡ next_number m.fixed → all ≡ bytes ++ 0 ∷ [] → m' ≡ fixed m n (Bytes (map Some all)) → m ≡ filled bs
    → m' ≡ filled (bs ++ text_block bytes ∷ [])
text_filled m m' bs n bytes all next long is full = filled_more m m' bs n (text_block bytes) next (is ∙ ap (λ z. fixed m n (Bytes (map Some z))) long) full

pub vector_filled : (m m' : Memory Value) (bs : List (Block Value)) (n : ℕ) (ds : List Datum) (vs : List Value) → n ≡ next_number m.fixed → vs ≡ (lay_parts (map laid ds) (n + 1)).values → m' ≡ fixed m n (Cells (map Some vs)) → m ≡ filled bs
    → m' ≡ filled (bs ++ vector_block ds (length bs) ∷ [])
vector_filled m m' bs n ds vs next values is full =
    let on : n + 1 ≡ suc (length bs) = omega (arith, number_of m bs n next full) in
    filled_more m m' bs n (vector_block ds (length bs)) next (is ∙ ap (λ z. fixed m n (Cells (map Some z))) (values ∙ ap (λ z. (lay_parts (map laid ds) z).values) on)) full

-- What is written reads again: the trees of data.
-- For: written_data_read_again
use Rattle.std.proofs.Common.{◌≡◌, ℕ, suc, ◌<◌, List, [], ◌∷◌, ◌++◌, length, take, drop, map, refl, sym, ap, subst, ◌∙◌, append_assoc, arith}
use Rattle.std.specs.List.{flat_map, AllByRecursion}
use Rattle.std.proofs.lemmas.List.Concat.{flat_map-cons}
use Rattle.std.proofs.lemmas.List.{append-nil, length-append, take_at, drop_at}
use Rattle.ps_base.specs.declared.faults.Place.{Place}
use Rattle.ps_datum.specs.declared.datum.Datum.{Datum, out-roll-Datum}
use Rattle.ps_datum.specs.declared.datum.DatumKind.{DatumKind, fold-DatumKind, out-DatumKind, roll-DatumKind}
use Rattle.ps_datum.specs.declared.datum.DatumKind.TheVariants as k
use Rattle.ps_datum.specs.declared.datum.DatumKind.TheOpen.{Datum-F, DatumKind-F}
use Rattle.ps_datum.specs.Writing.{text_node, spaced, written}
use Rattle.ps_datum.specs.InsideWriting.{kind_written}
use Rattle.ps_datum.proofs.TextsComeByParts.{of_list, of_vector, of_dotted}
use Rattle.ps_datum.proofs.Trees.{fold-datum, fold-list, fold-vector, fold-dotted}
use Rattle.ps_read.specs.declared.token.Token.{Token}
use Rattle.ps_read.specs.declared.token.Word.TheVariants as w
use Rattle.ps_read.specs.Grammar.{token, datum, quoted, joined, joined_by, levels, IsDatum, atom, list, vector, quote, dotted, IsData, none, more}
use Rattle.ps_read.specs.Lexical.{Table, front_of, after, behind, listed, noted, resolved, run_word, start, tokens}
use Rattle.ps_read.specs.Again.{nowhere, bare, ReadsAgain, WrittenReadsAgain}
use Rattle.ps_read.proofs.FrontsStayBeforeOthers.{Delimited, Fine, IsAtom, one_listed, one_token}
use Rattle.ps_read.proofs.AtomsReadAgain.{fine_tokens}

-- ---- the clauses of `bare`

-- the kind with one place everywhere
unfoldable bare_kind : DatumKind → DatumKind
bare_kind x = fold-DatumKind DatumKind Datum roll-DatumKind (λ y. datum nowhere y.kind) x

bare_datum : (p : Place) (x : DatumKind) → bare (datum p x) ≡ datum nowhere (bare_kind x)
unfolding bare bare_kind datum
bare_datum = fold-datum roll-DatumKind (λ y. datum nowhere y.kind)

bare_list : (ds : List Datum) → bare_kind (k.List ds) ≡ k.List (map bare ds)
unfolding bare bare_kind
bare_list ds = fold-list roll-DatumKind (λ y. datum nowhere y.kind) ds ∙ k.rolls-List (map bare ds)

bare_vector : (ds : List Datum) → bare_kind (k.Vector ds) ≡ k.Vector (map bare ds)
unfolding bare bare_kind
bare_vector ds = fold-vector roll-DatumKind (λ y. datum nowhere y.kind) ds ∙ k.rolls-Vector (map bare ds)

bare_dotted : (ds : List Datum) (last : Datum) → bare_kind (k.Dotted ds last) ≡ k.Dotted (map bare ds) (bare last)
unfolding bare bare_kind
bare_dotted ds last = fold-dotted roll-DatumKind (λ y. datum nowhere y.kind) ds last ∙ k.rolls-Dotted (map bare ds) (bare last)

-- ---- joined

joined_datum : (ds : List Datum) (p : Place) (x : DatumKind) → joined ds (datum p x) ≡ joined_by ds (datum p x) (out-DatumKind x)
unfolding joined datum
joined_datum ds p x = ap (λ (y : Datum-F DatumKind Datum). joined_by ds (datum p x) (out-DatumKind y.kind)) (out-roll-Datum (record { place = p; kind = x }))

joined_list : (ds : List Datum) (p : Place) (xs : List Datum) → joined ds (datum p (k.List xs)) ≡ k.List (ds ++ xs)
joined_list ds p xs = joined_datum ds p (k.List xs) ∙ ap (joined_by ds (datum p (k.List xs))) (k.outs-List xs)

joined_dotted : (ds : List Datum) (p : Place) (xs : List Datum) (last : Datum) → joined ds (datum p (k.Dotted xs last)) ≡ k.Dotted (ds ++ xs) last
joined_dotted ds p xs last = joined_datum ds p (k.Dotted xs last) ∙ ap (joined_by ds (datum p (k.Dotted xs last))) (k.outs-Dotted xs last)

joined_vector : (ds : List Datum) (p : Place) (xs : List Datum) → joined ds (datum p (k.Vector xs)) ≡ k.Dotted ds (datum p (k.Vector xs))
joined_vector ds p xs = joined_datum ds p (k.Vector xs) ∙ ap (joined_by ds (datum p (k.Vector xs))) (k.outs-Vector xs)

behind_append : (p : Place) (xs ys : List ℕ) → behind p (xs ++ ys) ≡ behind (behind p xs) ys
behind_append p [] ys = refl
behind_append p (x ∷ xs) ys = behind_append (after p x) xs ys

-- ---- data that have a text

-- its tail stays behind a dot
abbrev NoList : Datum → Type 0
NoList d = (ds : List Datum) → joined ds d ≡ k.Dotted ds d

-- data that have a text, where n levels are open
mutual
  data Readable (names : Table) : ℕ → Datum → Type 0 where
    r_leaf : {n : ℕ} {d : Datum} (p : Place) (x : DatumKind) → IsAtom names x → d ≡ datum p x → Readable names n d
    r_list : {n : ℕ} {d : Datum} (p : Place) (ds : List Datum) → n < levels → AllReadable names (suc n) ds → d ≡ datum p (k.List ds) → Readable names n d
    r_vector : {n : ℕ} {d : Datum} (p : Place) (ds : List Datum) → n < levels → AllReadable names (suc n) ds → d ≡ datum p (k.Vector ds) → Readable names n d
    r_dotted : {n : ℕ} {d : Datum} (p : Place) (x : Datum) (ds : List Datum) (tail : Datum) → n < levels → AllReadable names (suc n) (x ∷ ds) → Readable names (suc n) tail → NoList tail → d ≡ datum p (k.Dotted (x ∷ ds) tail) → Readable names n d

  data AllReadable (names : Table) : ℕ → List Datum → Type 0 where
    r_none : {n : ℕ} → AllReadable names n []
    r_more : {n : ℕ} {d : Datum} {ds : List Datum} → Readable names n d → AllReadable names n ds → AllReadable names n (d ∷ ds)

-- a datum between two lists of tokens that are given by equations
between : {n : ℕ} {d : Datum} (ts us rest rest' : List Token) → ts ≡ us → rest ≡ rest' → IsDatum n us d rest → IsDatum n ts d rest'
between {n} {d} ts us rest rest' e f h = subst (λ (r : List Token). IsDatum n ts d r) f (subst (λ (x : List Token). IsDatum n x d rest) (sym e) h)

data_between : {n : ℕ} {ds : List Datum} (ts us rest rest' : List Token) → ts ≡ us → rest ≡ rest' → IsData n us ds rest → IsData n ts ds rest'
data_between {n} {ds} ts us rest rest' e f h = subst (λ (r : List Token). IsData n ts ds r) f (subst (λ (x : List Token). IsData n x ds rest) (sym e) h)

parted : (xs ys : List ℕ) → ◌≡◌ {A = List ℕ × List ℕ} (take (length xs) (xs ++ ys), drop (length xs) (xs ++ ys)) (xs, ys)
parted xs ys = rw (take_at xs ys (length xs) refl, drop_at xs ys (length xs) refl) refl

module _ (names : Table) where
  written_datum : (p : Place) (x : DatumKind) → written names (datum p x) ≡ kind_written names x
  unfolding written kind_written datum
  written_datum = fold-datum (text_node names) (λ y. y.kind)

  -- ---- tokens of brackets and spaces

  tok_open : (p : Place) (cs : List ℕ) → tokens names 0 p (40 ∷ cs) ≡ token p w.Open ∷ tokens names 0 (after p 40) cs
  unfolding tokens front_of resolved noted
  tok_open p cs = refl

  tok_close : (p : Place) (cs : List ℕ) → tokens names 0 p (41 ∷ cs) ≡ token p w.Close ∷ tokens names 0 (after p 41) cs
  unfolding tokens front_of resolved noted
  tok_close p cs = refl

  tok_vector : (p : Place) (cs : List ℕ) → tokens names 0 p (35 ∷ 40 ∷ cs) ≡ token p w.VectorOpen ∷ tokens names 0 (after (after p 35) 40) cs
  unfolding tokens front_of resolved noted
  tok_vector p cs = refl

  tok_space : (p : Place) (cs : List ℕ) → tokens names 0 p (32 ∷ cs) ≡ tokens names 0 (after p 32) cs
  unfolding tokens front_of resolved noted
  tok_space p cs = refl

  tok_dot : (p : Place) (cs : List ℕ) → tokens names 0 p (46 ∷ 32 ∷ cs) ≡ token p w.Dot ∷ tokens names 0 (after p 46) (32 ∷ cs)
  unfolding tokens front_of resolved noted run_word
  tok_dot p cs = refl

  -- ---- what is read has a text

  mutual
    weaken : {n : ℕ} {d : Datum} → Readable names (suc n) d → Readable names n d
    weaken (r_leaf p x a e) = r_leaf p x a e
    weaken (r_list p ds lt all e) = r_list p ds (omega arith) (weaken_all all) e
    weaken (r_vector p ds lt all e) = r_vector p ds (omega arith) (weaken_all all) e
    weaken (r_dotted p x ds tail lt all last no_list e) = r_dotted p x ds tail (omega arith) (weaken_all all) (weaken last) no_list e

    weaken_all : {n : ℕ} {ds : List Datum} → AllReadable names (suc n) ds → AllReadable names n ds
    weaken_all r_none = r_none
    weaken_all (r_more d ds) = r_more (weaken d) (weaken_all ds)

  both : {n : ℕ} {ds es : List Datum} → AllReadable names n ds → AllReadable names n es → AllReadable names n (ds ++ es)
  both r_none h = h
  both (r_more d ds) h = r_more d (both ds h)

  leaf_no_list : (p : Place) (x : DatumKind) (d : Datum) → IsAtom names x → d ≡ datum p x → NoList d
  leaf_no_list p x d a e ds = ap (joined ds) e ∙ joined_datum ds p x ∙ a.no_list ds (datum p x) ∙ ap (λ (y : Datum). k.Dotted ds y) (sym e)

  -- a list with what stands behind its dot
  joined_readable : {n : ℕ} (p : Place) (x : Datum) (ds : List Datum) (tail : Datum) → n < levels → AllReadable names (suc n) (x ∷ ds) → Readable names (suc n) tail → Readable names n (datum p (joined (x ∷ ds) tail))
  joined_readable p x ds tail lt all (r_leaf q y a e) =
      let no_list = leaf_no_list q y tail a e in
      r_dotted p x ds tail lt all (r_leaf q y a e) no_list (ap (datum p) (no_list (x ∷ ds)))
  joined_readable p x ds tail lt all (r_list q xs lt2 others e) =
      r_list p (x ∷ ds ++ xs) lt (both all (weaken_all others)) (ap (λ (t : Datum). datum p (joined (x ∷ ds) t)) e ∙ ap (datum p) (joined_list (x ∷ ds) q xs))
  joined_readable p x ds tail lt all (r_vector q xs lt2 others e) =
      let no_list : NoList tail = λ zs. ap (joined zs) e ∙ joined_vector zs q xs ∙ ap (λ (y : Datum). k.Dotted zs y) (sym e) in
      r_dotted p x ds tail lt all (r_vector q xs lt2 others e) no_list (ap (datum p) (no_list (x ∷ ds)))
  joined_readable p x ds tail lt all (r_dotted q y ys last lt2 others end no_list e) =
      r_dotted p x (ds ++ y ∷ ys) last lt (both all (weaken_all others)) (weaken end) no_list (ap (λ (t : Datum). datum p (joined (x ∷ ds) t)) e ∙ ap (datum p) (joined_dotted (x ∷ ds) q (y ∷ ys) last))

  mutual
    unfolding Fine quoted

    datum_readable : {n : ℕ} {ts rest : List Token} {d : Datum} → IsDatum n ts d rest → Fine names ts → Readable names n d × Fine names rest
    datum_readable (atom p x) h = (r_leaf p x h.0 refl, h.1)
    datum_readable (list {ds = ds} p q lt items) h = let r = data_readable items h.1 in (r_list p ds lt r.0 refl, r.1.1)
    datum_readable (vector {ds = ds} p q lt items) h = let r = data_readable items h.1 in (r_vector p ds lt r.0 refl, r.1.1)
    datum_readable (quote {d = d} nq p lt inner) h =
        let r = datum_readable inner h.1 in
        (r_list p (datum p (k.Symbol nq) ∷ d ∷ []) lt (r_more (r_leaf p (k.Symbol nq) h.0 refl) (r_more r.0 r_none)) refl, r.1)
    datum_readable (dotted {d = d} {tail = tail} {ds = ds} p q z lt items last) h =
        let r = data_readable items h.1 in
        let t = datum_readable last r.1.1 in
        (joined_readable p d ds tail lt r.0 t.0, t.1.1)

    data_readable : {n : ℕ} {ts rest : List Token} {ds : List Datum} → IsData n ts ds rest → Fine names ts → AllReadable names n ds × Fine names rest
    data_readable none h = (r_none, h)
    data_readable (more first others) h =
        let d = datum_readable first h in
        let ds = data_readable others d.1 in
        (r_more d.0 ds.0, ds.1)

  -- ---- what has a text reads again

  -- the text of the datum is one datum before a delimiter
  Back : ℕ → Datum → Type 0
  Back n d = (p : Place) (m : List ℕ) → Delimited m → (e : Datum) × IsDatum n (tokens names 0 p (written names d ++ m)) e (tokens names 0 (behind p (written names d)) m) × (bare e ≡ bare d) × (NoList d → NoList e)

  list_listy : (q : Place) (ds : List Datum) → NoList (datum q (k.List ds)) → ⊥
  list_listy q ds h =
      let e : DatumKind-F.List ds ≡ DatumKind-F.Dotted [] (datum q (k.List ds)) = sym (k.outs-List ds) ∙ ap out-DatumKind (sym (joined_list [] q ds) ∙ h []) ∙ k.outs-Dotted [] (datum q (k.List ds)) in
      cc

  dotted_listy : (q : Place) (x : Datum) (ds : List Datum) (last : Datum) → NoList (datum q (k.Dotted (x ∷ ds) last)) → ⊥
  dotted_listy q x ds last h =
      let e : DatumKind-F.Dotted (x ∷ ds) last ≡ DatumKind-F.Dotted [] (datum q (k.Dotted (x ∷ ds) last)) = sym (k.outs-Dotted (x ∷ ds) last) ∙ ap out-DatumKind (sym (joined_dotted [] q (x ∷ ds) last) ∙ h []) ∙ k.outs-Dotted [] (datum q (k.Dotted (x ∷ ds) last)) in
      cc

  -- what stands behind the first part
  tail_text : List Datum → List ℕ
  tail_text ds = flat_map (λ y. 32 ∷ y) (map (written names) ds)

  BackTail : ℕ → List Datum → Type 0
  BackTail n ds = (p : Place) (m : List ℕ) → Delimited m → (es : List Datum) × IsData n (tokens names 0 p (tail_text ds ++ m)) es (tokens names 0 (behind p (tail_text ds)) m) × (map bare es ≡ map bare ds)

  BackAll : ℕ → List Datum → Type 0
  BackAll n ds = (p : Place) (m : List ℕ) → Delimited m → (es : List Datum) × IsData n (tokens names 0 p (spaced (map (written names) ds) ++ m)) es (tokens names 0 (behind p (spaced (map (written names) ds))) m) × (map bare es ≡ map bare ds)

  -- an atom
  atom_tokens : (x : DatumKind) (a : IsAtom names x) (p : Place) (m : List ℕ) → Delimited m → tokens names 0 p (kind_written names x ++ m) ≡ token p (w.Atom x) ∷ tokens names 0 (behind p (kind_written names x)) m
  atom_tokens x a p m h =
      ap (λ (t : List ℕ). tokens names 0 p (t ++ m)) a.text
      ∙ one_token names (length a.others) (w.Atom x) p a.first (a.others ++ m) (a.front m h) (a.table m h) (omega (arith, length-append a.others m))
      ∙ ap (λ (q : List ℕ × List ℕ). token p (w.Atom x) ∷ tokens names 0 (behind p q.0) q.1) (parted (a.first ∷ a.others) m)
      ∙ ap (λ (t : List ℕ). token p (w.Atom x) ∷ tokens names 0 (behind p t) m) (sym a.text)

  back_leaf : (n : ℕ) (d : Datum) (p : Place) (x : DatumKind) → IsAtom names x → d ≡ datum p x → Back n d
  unfolding Back
  back_leaf n d q x a e p m h =
      let same : written names d ≡ kind_written names x = ap (written names) e ∙ written_datum q x in (
        datum p x,
        between (tokens names 0 p (written names d ++ m)) (token p (w.Atom x) ∷ tokens names 0 (behind p (kind_written names x)) m) (tokens names 0 (behind p (kind_written names x)) m) (tokens names 0 (behind p (written names d)) m)
            (ap (λ (t : List ℕ). tokens names 0 p (t ++ m)) same ∙ atom_tokens x a p m h) (ap (λ (t : List ℕ). tokens names 0 (behind p t) m) (sym same)) (atom p x),
        bare_datum p x ∙ sym (ap bare e ∙ bare_datum q x),
        λ _. leaf_no_list p x (datum p x) a refl,
      )

  -- ---- parts

  tail_delimited : (ds : List Datum) (m : List ℕ) → Delimited m → Delimited (tail_text ds ++ m)
  unfolding tail_text
  tail_delimited [] m h = h
  tail_delimited (d ∷ ds) m h = refl

  all_none : (n : ℕ) → BackAll n []
  unfolding BackAll
  all_none n p m h = ([], none, refl)

  tail_none : (n : ℕ) → BackTail n []
  unfolding BackTail tail_text
  tail_none n p m h = ([], none, refl)

  -- a first datum, and the others
  first_then : (n : ℕ) (d : Datum) (ds : List Datum) → Back n d → BackTail n ds → (p : Place) (m : List ℕ) → Delimited m
      → (es : List Datum) × IsData n (tokens names 0 p ((written names d ++ tail_text ds) ++ m)) es (tokens names 0 (behind p (written names d ++ tail_text ds)) m) × (map bare es ≡ map bare (d ∷ ds))
  unfolding Back BackTail
  first_then n d ds one others p m h =
      let a = one p (tail_text ds ++ m) (tail_delimited ds m h) in
      let b = others (behind p (written names d)) m h in (
        a.0 ∷ b.0,
        data_between (tokens names 0 p ((written names d ++ tail_text ds) ++ m)) (tokens names 0 p (written names d ++ (tail_text ds ++ m))) (tokens names 0 (behind (behind p (written names d)) (tail_text ds)) m) (tokens names 0 (behind p (written names d ++ tail_text ds)) m)
            (ap (tokens names 0 p) (append_assoc (written names d) (tail_text ds) m)) (ap (λ (q : Place). tokens names 0 q m) (sym (behind_append p (written names d) (tail_text ds)))) (more a.1 b.1),
        ap (λ (y : Datum). y ∷ map bare b.0) a.2 ∙ ap (λ (ys : List Datum). bare d ∷ ys) b.2,
      )

  all_more : (n : ℕ) (d : Datum) (ds : List Datum) → Back n d → BackTail n ds → BackAll n (d ∷ ds)
  unfolding BackAll tail_text
  all_more n d ds one others p m h = first_then n d ds one others p m h

  tail_more : (n : ℕ) (d : Datum) (ds : List Datum) → Back n d → BackTail n ds → BackTail n (d ∷ ds)
  unfolding BackTail tail_text
  tail_more n d ds one others p m h =
      let r = first_then n d ds one others (after p 32) m h in
      let text : tail_text (d ∷ ds) ≡ 32 ∷ written names d ++ tail_text ds = flat_map-cons (λ (y : List ℕ). 32 ∷ y) (written names d) (map (written names) ds) in (
        r.0,
        data_between (tokens names 0 p (tail_text (d ∷ ds) ++ m)) (tokens names 0 (after p 32) ((written names d ++ tail_text ds) ++ m)) (tokens names 0 (behind (after p 32) (written names d ++ tail_text ds)) m) (tokens names 0 (behind p (tail_text (d ∷ ds))) m)
            (ap (λ (t : List ℕ). tokens names 0 p (t ++ m)) text ∙ tok_space p ((written names d ++ tail_text ds) ++ m)) (ap (λ (t : List ℕ). tokens names 0 (behind p t) m) (sym text)) r.1,
        r.2,
      )

  -- ---- brackets

  back_list : (n : ℕ) (d : Datum) (q : Place) (ds : List Datum) → n < levels → BackAll (suc n) ds → d ≡ datum q (k.List ds) → Back n d
  unfolding Back BackAll
  back_list n d q ds lt parts e p m h =
      let S = spaced (map (written names) ds) in
      let r = parts (after p 40) (41 ∷ m) refl in
      let text : written names d ≡ 40 ∷ spaced (map (written names) ds) ++ 41 ∷ [] = ap (written names) e ∙ written_datum q (k.List ds) ∙ of_list names ds in
      let opened : tokens names 0 p (written names d ++ m) ≡ token p w.Open ∷ tokens names 0 (after p 40) (spaced (map (written names) ds) ++ 41 ∷ m) =
      ap (λ (t : List ℕ). tokens names 0 p (t ++ m)) text ∙ tok_open p ((spaced (map (written names) ds) ++ 41 ∷ []) ++ m) ∙ ap (λ (t : List ℕ). token p w.Open ∷ tokens names 0 (after p 40) t) (append_assoc (spaced (map (written names) ds)) (41 ∷ []) m) in
      let z = behind (after p 40) (spaced (map (written names) ds)) in
      let shut : tokens names 0 z (41 ∷ m) ≡ token z w.Close ∷ tokens names 0 (after z 41) m = tok_close z m in
      let rest : tokens names 0 (after z 41) m ≡ tokens names 0 (behind p (written names d)) m =
      ap (λ (y : Place). tokens names 0 y m) (sym (behind_append (after p 40) (spaced (map (written names) ds)) (41 ∷ []))) ∙ ap (λ (t : List ℕ). tokens names 0 (behind p t) m) (sym text) in (
        datum p (k.List r.0),
        between (tokens names 0 p (written names d ++ m)) (token p w.Open ∷ tokens names 0 (after p 40) (spaced (map (written names) ds) ++ 41 ∷ m)) (tokens names 0 (after z 41) m) (tokens names 0 (behind p (written names d)) m) opened rest
            (list p z lt (subst (λ (x : List Token). IsData (suc n) (tokens names 0 (after p 40) (spaced (map (written names) ds) ++ 41 ∷ m)) r.0 x) shut r.1)),
        bare_datum p (k.List r.0) ∙ ap (datum nowhere) (bare_list r.0 ∙ ap k.List r.2 ∙ sym (bare_list ds)) ∙ sym (ap bare e ∙ bare_datum q (k.List ds)),
        λ h. absurd (list_listy q ds (subst (λ (y : Datum). NoList y) e h)),
      )

  back_vector : (n : ℕ) (d : Datum) (q : Place) (ds : List Datum) → n < levels → BackAll (suc n) ds → d ≡ datum q (k.Vector ds) → Back n d
  unfolding Back BackAll
  back_vector n d q ds lt parts e p m h =
      let o = after (after p 35) 40 in
      let r = parts o (41 ∷ m) refl in
      let text : written names d ≡ 35 ∷ 40 ∷ spaced (map (written names) ds) ++ 41 ∷ [] = ap (written names) e ∙ written_datum q (k.Vector ds) ∙ of_vector names ds in
      let opened : tokens names 0 p (written names d ++ m) ≡ token p w.VectorOpen ∷ tokens names 0 o (spaced (map (written names) ds) ++ 41 ∷ m) =
      ap (λ (t : List ℕ). tokens names 0 p (t ++ m)) text ∙ tok_vector p ((spaced (map (written names) ds) ++ 41 ∷ []) ++ m) ∙ ap (λ (t : List ℕ). token p w.VectorOpen ∷ tokens names 0 o t) (append_assoc (spaced (map (written names) ds)) (41 ∷ []) m) in
      let z = behind o (spaced (map (written names) ds)) in
      let shut : tokens names 0 z (41 ∷ m) ≡ token z w.Close ∷ tokens names 0 (after z 41) m = tok_close z m in
      let rest : tokens names 0 (after z 41) m ≡ tokens names 0 (behind p (written names d)) m =
      ap (λ (y : Place). tokens names 0 y m) (sym (behind_append o (spaced (map (written names) ds)) (41 ∷ []))) ∙ ap (λ (t : List ℕ). tokens names 0 (behind p t) m) (sym text) in (
        datum p (k.Vector r.0),
        between (tokens names 0 p (written names d ++ m)) (token p w.VectorOpen ∷ tokens names 0 o (spaced (map (written names) ds) ++ 41 ∷ m)) (tokens names 0 (after z 41) m) (tokens names 0 (behind p (written names d)) m) opened rest
            (vector p z lt (subst (λ (x : List Token). IsData (suc n) (tokens names 0 o (spaced (map (written names) ds) ++ 41 ∷ m)) r.0 x) shut r.1)),
        bare_datum p (k.Vector r.0) ∙ ap (datum nowhere) (bare_vector r.0 ∙ ap k.Vector r.2 ∙ sym (bare_vector ds)) ∙ sym (ap bare e ∙ bare_datum q (k.Vector ds)),
        λ h zs. joined_vector zs p r.0,
      )

  -- the data before a dot are some, as the data that were written
  some_parts : (n : ℕ) (x : Datum) (ds es : List Datum) (p z0 z : Place) (ts us rest : List Token) (last : Datum) → n < levels → IsData (suc n) ts es (token z0 w.Dot ∷ us) → map bare es ≡ map bare (x ∷ ds)
      → IsDatum (suc n) us last (token z w.Close ∷ rest) → IsDatum n (token p w.Open ∷ ts) (datum p (joined es last)) rest
  some_parts n x ds [] p z0 z ts us rest last lt items same end = absurd cc
  some_parts n x ds (y ∷ ys) p z0 z ts us rest last lt items same end = dotted p z0 z lt items end

  back_dotted : (n : ℕ) (d : Datum) (q : Place) (x : Datum) (ds : List Datum) (tail : Datum) → n < levels → BackAll (suc n) (x ∷ ds) → Back (suc n) tail → NoList tail → d ≡ datum q (k.Dotted (x ∷ ds) tail) → Back n d
  unfolding Back BackAll
  back_dotted n d q x ds tail lt parts last no_list e p m h =
      let S : List ℕ = spaced (map (written names) (x ∷ ds)) in
      let W : List ℕ = written names tail in
      let z0 = behind (after p 40) S in
      let z1 = after z0 32 in
      let z2 = after (after z1 46) 32 in
      let z3 = behind z2 W in
      let r = parts (after p 40) (32 ∷ 46 ∷ 32 ∷ W ++ 41 ∷ m) refl in
      let t = last z2 (41 ∷ m) refl in
      let text : written names d ≡ 40 ∷ S ++ 32 ∷ 46 ∷ 32 ∷ [] ++ W ++ 41 ∷ [] = ap (written names) e ∙ written_datum q (k.Dotted (x ∷ ds) tail) ∙ of_dotted names (x ∷ ds) tail in
      let grouped : (S ++ 32 ∷ 46 ∷ 32 ∷ [] ++ W ++ 41 ∷ []) ++ m ≡ S ++ 32 ∷ 46 ∷ 32 ∷ (W ++ 41 ∷ m) = simp append_assoc in
      let opened : tokens names 0 p (written names d ++ m) ≡ token p w.Open ∷ tokens names 0 (after p 40) (S ++ 32 ∷ 46 ∷ 32 ∷ (W ++ 41 ∷ m)) =
      ap (λ (y : List ℕ). tokens names 0 p (y ++ m)) text ∙ tok_open p ((S ++ 32 ∷ 46 ∷ 32 ∷ [] ++ W ++ 41 ∷ []) ++ m) ∙ ap (λ (y : List ℕ). token p w.Open ∷ tokens names 0 (after p 40) y) grouped in
      let dots : tokens names 0 z0 (32 ∷ 46 ∷ 32 ∷ W ++ 41 ∷ m) ≡ token z1 w.Dot ∷ tokens names 0 z2 (W ++ 41 ∷ m) =
      tok_space z0 (46 ∷ 32 ∷ (W ++ 41 ∷ m)) ∙ tok_dot z1 (W ++ 41 ∷ m) ∙ ap (λ (ts : List Token). token z1 w.Dot ∷ ts) (tok_space (after z1 46) (W ++ 41 ∷ m)) in
      let shut : tokens names 0 z3 (41 ∷ m) ≡ token z3 w.Close ∷ tokens names 0 (after z3 41) m = tok_close z3 m in
      let places : behind p (40 ∷ S ++ 32 ∷ 46 ∷ 32 ∷ [] ++ W ++ 41 ∷ []) ≡ after z3 41 =
      behind_append (after p 40) (S ++ 32 ∷ 46 ∷ 32 ∷ [] ++ W) (41 ∷ []) ∙ ap (λ (y : Place). after y 41) (behind_append (after p 40) (S ++ 32 ∷ 46 ∷ 32 ∷ []) W ∙ ap (λ (y : Place). behind y W) (behind_append (after p 40) S (32 ∷ 46 ∷ 32 ∷ []))) in
      let rest : tokens names 0 (after z3 41) m ≡ tokens names 0 (behind p (written names d)) m = ap (λ (y : Place). tokens names 0 y m) (sym places) ∙ ap (λ (y : List ℕ). tokens names 0 (behind p y) m) (sym text) in
      let items : IsData (suc n) (tokens names 0 (after p 40) (S ++ 32 ∷ 46 ∷ 32 ∷ (W ++ 41 ∷ m))) r.0 (token z1 w.Dot ∷ tokens names 0 z2 (W ++ 41 ∷ m)) =
      subst (λ (y : List Token). IsData (suc n) (tokens names 0 (after p 40) (S ++ 32 ∷ 46 ∷ 32 ∷ (W ++ 41 ∷ m))) r.0 y) dots r.1 in
      let end : IsDatum (suc n) (tokens names 0 z2 (W ++ 41 ∷ m)) t.0 (token z3 w.Close ∷ tokens names 0 (after z3 41) m) =
      subst (λ (y : List Token). IsDatum (suc n) (tokens names 0 z2 (W ++ 41 ∷ m)) t.0 y) shut t.1 in (
        datum p (joined r.0 t.0),
        between (tokens names 0 p (written names d ++ m)) (token p w.Open ∷ tokens names 0 (after p 40) (S ++ 32 ∷ 46 ∷ 32 ∷ (W ++ 41 ∷ m))) (tokens names 0 (after z3 41) m) (tokens names 0 (behind p (written names d)) m) opened rest
            (some_parts n x ds r.0 p z1 z3 (tokens names 0 (after p 40) (S ++ 32 ∷ 46 ∷ 32 ∷ (W ++ 41 ∷ m))) (tokens names 0 z2 (W ++ 41 ∷ m)) (tokens names 0 (after z3 41) m) t.0 lt items r.2 end),
        bare_datum p (joined r.0 t.0)
            ∙ ap (λ (y : DatumKind). datum nowhere (bare_kind y)) (t.3 no_list r.0)
            ∙ ap (datum nowhere) (bare_dotted r.0 t.0 ∙ ap (λ (ys : List Datum). k.Dotted ys (bare t.0)) r.2 ∙ ap (λ (y : Datum). k.Dotted (map bare (x ∷ ds)) y) t.2 ∙ sym (bare_dotted (x ∷ ds) tail))
            ∙ sym (ap bare e ∙ bare_datum q (k.Dotted (x ∷ ds) tail)),
        λ g. absurd (dotted_listy q x ds tail (subst (λ (y : Datum). NoList y) e g)),
      )

  mutual
    unfolding Back BackTail BackAll tail_text

    back : {n : ℕ} {d : Datum} → Readable names n d → Back n d
    back {n} {d} (r_leaf q x a e) = back_leaf n d q x a e
    back {n} {d} (r_list q ds lt all e) = back_list n d q ds lt (back_all all) e
    back {n} {d} (r_vector q ds lt all e) = back_vector n d q ds lt (back_all all) e
    back {n} {d} (r_dotted q x ds tail lt all last no_list e) = back_dotted n d q x ds tail lt (back_all all) (back last) no_list e

    back_all : {n : ℕ} {ds : List Datum} → AllReadable names n ds → BackAll n ds
    back_all {n} r_none = all_none n
    back_all {n} (r_more {d = d} {ds = ds} first others) = all_more n d ds (back first) (back_tail others)

    back_tail : {n : ℕ} {ds : List Datum} → AllReadable names n ds → BackTail n ds
    back_tail {n} r_none = tail_none n
    back_tail {n} (r_more {d = d} {ds = ds} first others) = tail_more n d ds (back first) (back_tail others)

  -- ---- what is read again leaves the table

  Leaves : List ℕ → Type 0
  Leaves text = (m : List ℕ) → Delimited m → listed names 0 (text ++ m) ≡ listed names 0 m

  atom_leaves : (x : DatumKind) → IsAtom names x → Leaves (kind_written names x)
  unfolding Leaves
  atom_leaves x a m h =
      ap (λ (t : List ℕ). listed names 0 (t ++ m)) a.text ∙ one_listed names (length a.others) (w.Atom x) a.first (a.others ++ m) (a.front m h) (a.table m h) (omega (arith, length-append a.others m))
      ∙ ap (λ (q : List ℕ × List ℕ). listed names 0 q.1) (parted (a.first ∷ a.others) m)

  by_text : (s t : List ℕ) → s ≡ t → Leaves t → Leaves s
  by_text s t e h = subst Leaves (sym e) h

  pass_open : (cs : List ℕ) → listed names 0 (40 ∷ cs) ≡ listed names 0 cs
  unfolding listed front_of noted
  pass_open cs = refl

  pass_close : (cs : List ℕ) → listed names 0 (41 ∷ cs) ≡ listed names 0 cs
  unfolding listed front_of noted
  pass_close cs = refl

  pass_vector : (cs : List ℕ) → listed names 0 (35 ∷ 40 ∷ cs) ≡ listed names 0 cs
  unfolding listed front_of noted
  pass_vector cs = refl

  pass_space : (cs : List ℕ) → listed names 0 (32 ∷ cs) ≡ listed names 0 cs
  unfolding listed front_of noted
  pass_space cs = refl

  pass_dot : (cs : List ℕ) → listed names 0 (46 ∷ 32 ∷ cs) ≡ listed names 0 (32 ∷ cs)
  unfolding listed front_of noted run_word
  pass_dot cs = refl

  -- parts and the bracket behind them
  closed_leaves : (text : List ℕ) → Leaves text → Leaves (text ++ 41 ∷ [])
  unfolding Leaves
  closed_leaves text parts m h = ap (listed names 0) (append_assoc text (41 ∷ []) m) ∙ parts (41 ∷ m) refl ∙ pass_close m

  list_leaves : (text : List ℕ) → Leaves text → Leaves (40 ∷ text ++ 41 ∷ [])
  unfolding Leaves
  list_leaves text parts m h = pass_open ((text ++ 41 ∷ []) ++ m) ∙ closed_leaves text parts m h

  vector_leaves : (text : List ℕ) → Leaves text → Leaves (35 ∷ 40 ∷ text ++ 41 ∷ [])
  unfolding Leaves
  vector_leaves text parts m h = pass_vector ((text ++ 41 ∷ []) ++ m) ∙ closed_leaves text parts m h

  dotted_leaves : (text last : List ℕ) → Leaves text → Leaves last → Leaves (40 ∷ text ++ 32 ∷ 46 ∷ 32 ∷ [] ++ last ++ 41 ∷ [])
  unfolding Leaves
  dotted_leaves text last parts tail m h =
      let grouped : (text ++ 32 ∷ 46 ∷ 32 ∷ [] ++ last ++ 41 ∷ []) ++ m ≡ text ++ 32 ∷ 46 ∷ 32 ∷ (last ++ 41 ∷ m) = simp append_assoc in
      pass_open ((text ++ 32 ∷ 46 ∷ 32 ∷ [] ++ last ++ 41 ∷ []) ++ m) ∙ ap (listed names 0) grouped ∙ parts (32 ∷ 46 ∷ 32 ∷ (last ++ 41 ∷ m)) refl
      ∙ pass_space (46 ∷ 32 ∷ (last ++ 41 ∷ m)) ∙ pass_dot (last ++ 41 ∷ m) ∙ pass_space (last ++ 41 ∷ m) ∙ tail (41 ∷ m) refl ∙ pass_close m

  -- a first part, and the others
  first_leaves : (d : Datum) (ds : List Datum) → Leaves (written names d) → Leaves (tail_text ds) → Leaves (written names d ++ tail_text ds)
  unfolding Leaves
  first_leaves d ds one others m h = ap (listed names 0) (append_assoc (written names d) (tail_text ds) m) ∙ one (tail_text ds ++ m) (tail_delimited ds m h) ∙ others m h

  tail_leaves : (d : Datum) (ds : List Datum) → Leaves (written names d ++ tail_text ds) → Leaves (tail_text (d ∷ ds))
  unfolding Leaves tail_text
  tail_leaves d ds parts m h =
      let text : tail_text (d ∷ ds) ≡ 32 ∷ written names d ++ tail_text ds = flat_map-cons (λ (y : List ℕ). 32 ∷ y) (written names d) (map (written names) ds) in
      ap (λ (t : List ℕ). listed names 0 (t ++ m)) text ∙ pass_space ((written names d ++ tail_text ds) ++ m) ∙ parts m h

  none_leaves : Leaves []
  unfolding Leaves
  none_leaves m h = refl

  mutual
    unfolding tail_text

    leaves : {n : ℕ} {d : Datum} → Readable names n d → Leaves (written names d)
    leaves {n} {d} (r_leaf q x a e) = by_text (written names d) (kind_written names x) (ap (written names) e ∙ written_datum q x) (atom_leaves x a)
    leaves {n} {d} (r_list q ds lt all e) = by_text (written names d) _ (ap (written names) e ∙ written_datum q (k.List ds) ∙ of_list names ds) (list_leaves (spaced (map (written names) ds)) (leaves_all all))
    leaves {n} {d} (r_vector q ds lt all e) = by_text (written names d) _ (ap (written names) e ∙ written_datum q (k.Vector ds) ∙ of_vector names ds) (vector_leaves (spaced (map (written names) ds)) (leaves_all all))
    leaves {n} {d} (r_dotted q x ds tail lt all last no_list e) =
        by_text (written names d) _ (ap (written names) e ∙ written_datum q (k.Dotted (x ∷ ds) tail) ∙ of_dotted names (x ∷ ds) tail) (dotted_leaves (spaced (map (written names) (x ∷ ds))) (written names tail) (leaves_all all) (leaves last))

    leaves_all : {n : ℕ} {ds : List Datum} → AllReadable names n ds → Leaves (spaced (map (written names) ds))
    leaves_all r_none = none_leaves
    leaves_all (r_more {d = d} {ds = ds} first others) = first_leaves d ds (leaves first) (leaves_tail others)

    leaves_tail : {n : ℕ} {ds : List Datum} → AllReadable names n ds → Leaves (tail_text ds)
    leaves_tail r_none = none_leaves
    leaves_tail (r_more {d = d} {ds = ds} first others) = tail_leaves d ds (first_leaves d ds (leaves first) (leaves_tail others))

  same_table : {n : ℕ} {d : Datum} → Readable names n d → names ≡ listed names 0 (written names d)
  unfolding Leaves listed
  same_table {n} {d} r = sym (ap (listed names 0) (sym (append-nil (written names d))) ∙ leaves r [] refl)

  -- each datum that has a text reads again
  reads_again : {d : Datum} → Readable names 0 d → ReadsAgain names d
  unfolding Back tokens
  reads_again {d} r file =
      let b = back r (start file) [] refl in
      (b.0, record { data_are = more (between (tokens names 0 (start file) (written names d)) (tokens names 0 (start file) (written names d ++ [])) (tokens names 0 (behind (start file) (written names d)) []) [] (ap (tokens names 0 (start file)) (sym (append-nil (written names d)))) refl b.1) none; names_are = same_table r }, b.2)

  all_read_again : {n : ℕ} {ds : List Datum} → AllReadable names n ds → n ≡ 0 → AllByRecursion (ReadsAgain names) ds
  all_read_again r_none e = tt
  all_read_again (r_more {d = d} {ds = ds} first others) e = (reads_again (subst (λ (n : ℕ). Readable names n d) e first), all_read_again others e)

pub written_again : WrittenReadsAgain
written_again before file text ds names reads =
    all_read_again names (data_readable names reads.data_are (fine_tokens names before 0 (start file) text (sym reads.names_are))).0 refl

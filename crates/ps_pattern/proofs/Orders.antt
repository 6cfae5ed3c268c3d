-- Parts that are made in order, within a room.
-- For: fill_parts, fill_part, fill_steps, and the same of is_uneven
use Rattle.std.proofs.Common.{◌≡◌, ℕ, zero, suc, ◌+◌, ◌<◌, List, [], ◌∷◌, ◌++◌, map, take, drop, length, refl, subst, ap, sym, ◌∙◌, Option, Some, None, append-nil, append_assoc, arith, rules, true, false}
use Rattle.std.specs.Prelude.{is_none}
use Rattle.std.specs.Prelude.{slice_get, get_or, Err}
use Rattle.std.specs.Option.{option_map, unwrap_or}
use Rattle.std.specs.List.{range_with_len}
use Rattle.std.proofs.lemmas.Option.{slice_get-map, slice_get-get_or}
use Rattle.std.proofs.lemmas.List.FromFn.{take-map-range_with_len, get_or-map-range_with_len, length-map-range_with_len}
use Rattle.ps_pattern.specs.declared.syntax.Syntax.{Syntax}
use Rattle.ps_pattern.specs.declared.room.FillFault.{FillFault}
use Rattle.ps_pattern.specs.declared.room.FillFault.TheVariants.{Uneven, TooLarge, NoMemory}
use Rattle.ps_pattern.specs.Filling.{size, sizes, appended, in_order, single, Fills}
use Rattle.ps_pattern.proofs.Lists.{got}

abbrev pub Part : Type 0
Part = Option (List Syntax)

appended_none : (x : Part) → appended x None ≡ None
appended_none None = refl
appended_none (Some x) = refl

appended_nothing : (x : Part) → appended x (Some []) ≡ x
appended_nothing None = refl
appended_nothing (Some x) = ap Some (append-nil x)

nothing_appended : (x : Part) → appended (Some []) x ≡ x
nothing_appended None = refl
nothing_appended (Some x) = refl

appended_assoc : (x y z : Part) → appended (appended x y) z ≡ appended x (appended y z)
appended_assoc None y z = refl
appended_assoc (Some x) None z = refl
appended_assoc (Some x) (Some y) None = refl
appended_assoc (Some x) (Some y) (Some z) = ap Some (append_assoc x y z)

pub some_is : {A : Type 0} {a b : A} → Some a ≡ Some b → a ≡ b
some_is {A} {a} {b} e = ap (λ o. unwrap_or o a) e

-- what stands before a part, the part, and what stands behind it
split : (os : List Part) (i : ℕ) (o : Part) → slice_get os i ≡ Some o → in_order os ≡ appended (in_order (take i os)) (appended o (in_order (drop (suc i) os)))
split [] i o e = search rules
split (x ∷ os) zero o e = ap (λ z. appended z (in_order os)) (some_is e) ∙ sym (nothing_appended (appended o (in_order os)))
split (x ∷ os) (suc i) o e = ap (appended x) (split os i o e) ∙ sym (appended_assoc x (in_order (take i os)) (appended o (in_order (drop (suc i) os))))

one_more : (os : List Part) (i : ℕ) (o : Part) → slice_get os i ≡ Some o → in_order (take (suc i) os) ≡ appended (in_order (take i os)) o
one_more [] i o e = search rules
one_more (x ∷ os) zero o e = appended_nothing x ∙ some_is e ∙ sym (nothing_appended o)
one_more (x ∷ os) (suc i) o e = ap (appended x) (one_more os i o e) ∙ sym (appended_assoc x (in_order (take i os)) o)

pub sizes_append : (fs gs : List Syntax) → sizes (fs ++ gs) ≡ sizes fs + sizes gs
sizes_append [] gs = omega arith
sizes_append (f ∷ fs) gs = ap (λ n. size f + n) (sizes_append fs gs) ∙ omega arith

pub kept : (os : List Part) (i : ℕ) (o : Part) (fs m new : List Syntax) (here left mleft : ℕ) → slice_get os i ≡ Some o → ((in_order (take i os) ≡ Some fs) × (here + sizes fs ≡ left)) → ((o ≡ Some m) × (mleft + sizes m ≡ here)) → new ≡ fs ++ m → (in_order (take (i + 1) os) ≡ Some new) × (mleft + sizes new ≡ left)
kept os i o fs m new here left mleft e inv made is =
    let one : i + 1 ≡ suc i = omega arith in
    let a : sizes new ≡ sizes fs + sizes m = ap sizes is ∙ sizes_append fs m in
    let b : mleft + sizes m ≡ here = made.1 in
    let d : here + sizes fs ≡ left = inv.1 in
    (ap (λ n. in_order (take n os)) one ∙ one_more os i o e ∙ ap (λ z. appended z o) inv.0 ∙ ap (appended (Some fs)) made.0 ∙ ap Some (sym is), omega arith)

large : (fs xs : List Syntax) (o rest : Part) (here left : ℕ) → appended (Some fs) (appended o rest) ≡ Some xs → here + sizes fs ≡ left → ((x : List Syntax) → o ≡ Some x → here < sizes x) → left < sizes xs
large fs xs None rest here left e d h = search rules
large fs xs (Some m) None here left e d h = search rules
large fs xs (Some m) (Some gs) here left e d h =
    let a : sizes xs ≡ sizes fs + (sizes m + sizes gs) = ap sizes (sym (some_is e)) ∙ sizes_append fs (m ++ gs) ∙ ap (λ n. sizes fs + n) (sizes_append m gs) in
    let b : here < sizes m = h m refl in
    omega arith

pub fault : (os : List Part) (i : ℕ) (o : Part) (fs : List Syntax) (here left : ℕ) (x : FillFault) → slice_get os i ≡ Some o → ((in_order (take i os) ≡ Some fs) × (here + sizes fs ≡ left)) → Fills sizes o here (Err x) → Fills sizes (in_order os) left (Err x)
fault os i o fs here left Uneven e inv h = split os i o e ∙ ap (λ z. appended (in_order (take i os)) (appended z (in_order (drop (suc i) os)))) h ∙ appended_none (in_order (take i os))
fault os i o fs here left TooLarge e inv h = λ xs is. large fs xs o (in_order (drop (suc i) os)) here left (ap (λ z. appended z (appended o (in_order (drop (suc i) os)))) (sym inv.0) ∙ sym (split os i o e) ∙ is) inv.1 h
fault os i o fs here left NoMemory e inv h = h

-- the same of one form
pub single_made : (a : Option Syntax) (f : Syntax) (mleft here : ℕ) → ((a ≡ Some f) × (mleft + size f ≡ here)) → (option_map single a ≡ Some (single f)) × (mleft + sizes (single f) ≡ here)
single_made a f mleft here e = let d : mleft + size f ≡ here = e.1 in (ap (option_map single) e.0, omega arith)

single_large : (a : Option Syntax) (here : ℕ) → ((x : Syntax) → a ≡ Some x → here < size x) → (x : List Syntax) → option_map single a ≡ Some x → here < sizes x
single_large None here h x e = search rules
single_large (Some f) here h x e = let b : here < size f = h f refl in let d : sizes x ≡ size f + 0 = ap sizes (sym (some_is e)) in omega arith

pub single_fault : (a : Option Syntax) (here : ℕ) (x : FillFault) → Fills size a here (Err x) → Fills sizes (option_map single a) here (Err x)
single_fault a here Uneven h = ap (option_map single) h
single_fault a here TooLarge h = single_large a here h
single_fault a here NoMemory h = h

pub got_map : {A B : Type 0} (g : A → B) (xs : List A) (i : ℕ) (x : A) → i < length xs → x ≡ get_or xs i x → slice_get (map g xs) i ≡ Some (g x)
got_map g xs i x within e = slice_get-map g xs i ∙ ap (option_map g) (got xs i x within e)

pub got_range : {B : Type 0} (g : ℕ → B) (n i : ℕ) → i < n → slice_get (map g (range_with_len 0 n)) i ≡ Some (g i)
got_range g n i within = slice_get-get_or (map g (range_with_len 0 n)) i (g i) (subst (λ k. i < k) (sym (length-map-range_with_len g 0 n)) within) ∙ ap Some (get_or-map-range_with_len g 0 n i i (g i) within (omega arith))

pub whole_range : {B : Type 0} (g : ℕ → B) (n : ℕ) → take n (map g (range_with_len 0 n)) ≡ map g (range_with_len 0 n)
whole_range g n = take-map-range_with_len g 0 n n (omega arith)

either_none : (a b : Part) → is_none a ≡ false → is_none b ≡ false → is_none (appended a b) ≡ false
either_none None b e h = e
either_none (Some x) None e h = h
either_none (Some x) (Some y) e h = refl

none_after : (a b : Part) → is_none b ≡ true → is_none (appended a b) ≡ true
none_after None b e = refl
none_after (Some x) None e = refl
none_after (Some x) (Some y) e = e

none_before : (a b : Part) → is_none a ≡ true → is_none (appended a b) ≡ true
none_before None b e = refl
none_before (Some x) b e = search rules

pub still_some : (os : List Part) (i : ℕ) (o : Part) → slice_get os i ≡ Some o → is_none (in_order (take i os)) ≡ false → is_none o ≡ false → is_none (in_order (take (i + 1) os)) ≡ false
still_some os i o e inv h = let one : i + 1 ≡ suc i = omega arith in ap (λ n. is_none (in_order (take n os))) one ∙ ap is_none (one_more os i o e) ∙ either_none (in_order (take i os)) o inv h

pub found_none : (os : List Part) (i : ℕ) (o : Part) → slice_get os i ≡ Some o → is_none o ≡ true → is_none (in_order os) ≡ true
found_none os i o e h = ap is_none (split os i o e) ∙ none_after (in_order (take i os)) (appended o (in_order (drop (suc i) os))) (none_before o (in_order (drop (suc i) os)) h)

pub single_none : (a : Option Syntax) → is_none (option_map single a) ≡ is_none a
single_none None = refl
single_none (Some f) = refl

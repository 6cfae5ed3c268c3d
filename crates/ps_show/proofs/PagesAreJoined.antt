-- What is written one after another is joined, and what a page then holds.
-- For: all that writes on a page
use Rattle.std.proofs.Common.{◌≡◌, ℕ, zero, suc, ◌+◌, ◌<◌, ◌≤◌, List, [], ◌∷◌, ◌++◌, length, drop, get_or, Option, Some, None, refl, sym, ap, subst, ◌∙◌, append_assoc, arith, length-append, drop-cons, add-one}
use Rattle.std.proofs.lemmas.List.{append-nil, nil_from_length, length-drop}
use Rattle.ps_base.specs.declared.faults.Place.{Place}
use Rattle.ps_show.specs.declared.page.Page.{Page}
use Rattle.ps_show.specs.declared.page.ShowFault.{ShowFault}
use Rattle.ps_show.specs.declared.page.ShowFault.TheVariants as faults
use Rattle.ps_show.specs.Shown.{Shown, Text, Deep, ◌⋄◌, behind, spaced}
use Rattle.ps_show.specs.InsidePages.{Holds, HoldsText, Adds, deeper}
use Rattle.ps_show.specs.InsideForms.{space_before}
use Rattle.std.specs.Prelude.{true, false, is_some}

-- joins may be taken in any grouping
pub join_assoc : (a b c : Shown) → (a ⋄ b) ⋄ c ≡ a ⋄ (b ⋄ c)
unfolding ◌⋄◌
join_assoc (Text a) (Text b) (Text c) = ap Text (append_assoc a b c)
join_assoc (Text a) (Text b) (Deep p) = refl
join_assoc (Text a) (Deep p) c = refl
join_assoc (Deep p) b c = refl

join_nothing : (a : Shown) → a ⋄ Text [] ≡ a
unfolding ◌⋄◌
join_nothing (Text a) = ap Text (append-nil a)
join_nothing (Deep p) = refl

-- one text and then another
pub adds_then : (r s t : Page) (a b : Shown) → Adds r s a → Adds s t b → Adds r t (a ⋄ b)
adds_then r s t a b h k = record { adds = λ front w. subst (λ (x : Shown). HoldsText t x) (join_assoc front a b) (k.adds (front ⋄ a) (h.adds front w)) }

pub adds_nothing : (s : Page) → Adds s s (Text [])
adds_nothing s = record { adds = λ front w. subst (λ (x : Shown). HoldsText s x) (sym (join_nothing front)) w }

pub adds_text : (s t : Page) (a b : Shown) → a ≡ b → Adds s t a → Adds s t b
adds_text s t a b e h = subst (λ (x : Shown). Adds s t x) e h

-- ---- what a page holds of one text more

deep_of_none : (bytes : List ℕ) (p : Place) (front : Shown) → Holds None bytes front → Holds (Some (faults.Deep p)) bytes (front ⋄ Deep p)
unfolding ◌⋄◌
deep_of_none bytes p (Text t) h = refl
deep_of_none bytes p (Deep at) h = absurd h

deep_of_fault : (f : ShowFault) (bytes : List ℕ) (p : Place) (front : Shown) → Holds (Some f) bytes front → Holds (Some (deeper f p)) bytes (front ⋄ Deep p)
unfolding ◌⋄◌
deep_of_fault (faults.Deep q) bytes p (Text t) h = absurd h
deep_of_fault (faults.Deep q) bytes p (Deep at) h = h
deep_of_fault faults.Long bytes p (Text t) h = refl
deep_of_fault faults.Long bytes p (Deep at) h = absurd h
deep_of_fault faults.NoMemory bytes p front h = tt

pub adds_deep_first : (s : Page) (p : Place) → s.fault ≡ None → Adds s (record { bytes = s.bytes; fault = Some (faults.Deep p) }) (Deep p)
adds_deep_first s p e = record { adds = λ front w. record { holds = deep_of_none s.bytes p front (subst (λ (o : Option ShowFault). Holds o s.bytes front) e w.holds) } }

pub adds_deeper : (s : Page) (p : Place) (f : ShowFault) → s.fault ≡ Some f → Adds s (record { bytes = s.bytes; fault = Some (deeper f p) }) (Deep p)
adds_deeper s p f e = record { adds = λ front w. record { holds = deep_of_fault f s.bytes p front (subst (λ (o : Option ShowFault). Holds o s.bytes front) e w.holds) } }

stays : (o : Option ShowFault) (bytes x : List ℕ) (front : Shown) → is_some o ≡ true → Holds o bytes front → Holds o bytes (front ⋄ Text x)
unfolding ◌⋄◌
stays None bytes x front e h = absurd (let clash : false ≡ true = e in cc)
stays (Some (faults.Deep q)) bytes x (Text t) e h = absurd h
stays (Some (faults.Deep q)) bytes x (Deep at) e h = h
stays (Some faults.Long) bytes x (Text t) e h = omega (arith, length-append t x)
stays (Some faults.Long) bytes x (Deep at) e h = absurd h
stays (Some faults.NoMemory) bytes x front e h = tt

-- behind a fault nothing is written
pub adds_behind_fault : (s : Page) (x : List ℕ) → is_some s.fault ≡ true → Adds s (record { bytes = s.bytes; fault = s.fault }) (Text x)
adds_behind_fault s x e = record { adds = λ front w. record { holds = stays s.fault s.bytes x front e w.holds } }

no_room : (o : Option ShowFault) (bytes b x : List ℕ) (front : Shown) → is_some o ≡ false → 4194304 < length bytes + length x → Holds o bytes front → Holds (Some faults.Long) b (front ⋄ Text x)
unfolding ◌⋄◌
no_room (Some f) bytes b x front e lt h = absurd (let clash : true ≡ false = e in cc)
no_room None bytes b x (Text t) e lt h = let same : length bytes ≡ length t = ap length h.0 in omega (arith, length-append t x)
no_room None bytes b x (Deep at) e lt h = absurd h

-- what has no room is too long
pub adds_too_much : (s : Page) (b x : List ℕ) → is_some s.fault ≡ false → 4194304 < length s.bytes + length x → Adds s (record { bytes = b; fault = Some faults.Long }) (Text x)
adds_too_much s b x e lt = record { adds = λ front w. record { holds = no_room s.fault s.bytes b x front e lt w.holds } }

room : (o : Option ShowFault) (bytes b x : List ℕ) (front : Shown) → is_some o ≡ false → b ≡ bytes ++ x → length b ≤ 4194304 → Holds o bytes front → Holds o b (front ⋄ Text x)
unfolding ◌⋄◌
room (Some f) bytes b x front e is le h = absurd (let clash : true ≡ false = e in cc)
room None bytes b x (Text t) e is le h = let same : b ≡ t ++ x = is ∙ ap (λ (y : List ℕ). y ++ x) h.0 in (same, subst (λ (y : List ℕ). length y ≤ 4194304) same le)
room None bytes b x (Deep at) e is le h = absurd h

-- what has room is appended
pub adds_bytes : (s : Page) (b x : List ℕ) → is_some s.fault ≡ false → b ≡ s.bytes ++ x → length b ≤ 4194304 → Adds s (record { bytes = b; fault = s.fault }) (Text x)
adds_bytes s b x e is le = record { adds = λ front w. record { holds = room s.fault s.bytes b x front e is le w.holds } }

-- ---- the members of a list, one after another

text_at : (i : ℕ) (xs : List ℕ) → i < length xs → Text (drop i xs) ≡ Text (get_or xs i 0 ∷ []) ⋄ Text (drop (i + 1) xs)
unfolding ◌⋄◌
text_at i xs lt = ap Text (drop-cons xs i 0 lt ∙ ap (λ (n : ℕ). get_or xs i 0 ∷ drop n xs) (sym (add-one i)))

-- one byte, and then the rest
pub adds_byte : (r s t : Page) (i : ℕ) (xs : List ℕ) → i < length xs → Adds r s (Text (get_or xs i 0 ∷ [])) → Adds s t (Text (drop (i + 1) xs)) → Adds r t (Text (drop i xs))
adds_byte r s t i xs lt h k = adds_text r t _ _ (sym (text_at i xs lt)) (adds_then r s t _ _ h k)

behind_cons : {A : Type 0} (f : A → Shown) (xs ys : List A) (x : A) → xs ≡ x ∷ ys → behind f xs ≡ Text (32 ∷ []) ⋄ (f x ⋄ behind f ys)
unfolding behind
behind_cons f xs ys x e = ap (behind f) e

behind_at : {A : Type 0} (f : A → Shown) (i : ℕ) (xs : List A) (x : A) → i < length xs → x ≡ get_or xs i x → behind f (drop i xs) ≡ Text (32 ∷ []) ⋄ (f x ⋄ behind f (drop (i + 1) xs))
behind_at f i xs x lt e = behind_cons f (drop i xs) (drop (i + 1) xs) x (drop-cons xs i x lt ∙ ap (λ y. y ∷ drop (suc i) xs) (sym e) ∙ ap (λ (n : ℕ). x ∷ drop n xs) (sym (add-one i)))

-- one member behind a space, and then the rest
pub adds_behind : {A : Type 0} (r s t u : Page) (f : A → Shown) (i : ℕ) (xs : List A) (x : A) → i < length xs → x ≡ get_or xs i x
    → Adds r s (Text (32 ∷ [])) → Adds s t (f x) → Adds t u (behind f (drop (i + 1) xs)) → Adds r u (behind f (drop i xs))
adds_behind r s t u f i xs x lt e g h k = adds_text r u _ _ (sym (behind_at f i xs x lt e)) (adds_then r s u _ _ g (adds_then s t u _ _ h k))

behind_none : {A : Type 0} (f : A → Shown) (xs : List A) → length xs ≡ 0 → behind f xs ≡ Text []
unfolding behind
behind_none f [] e = refl
behind_none f (x ∷ xs) e = absurd (omega arith)

-- behind the last member
pub adds_behind_none : {A : Type 0} (s : Page) (f : A → Shown) (i : ℕ) (xs : List A) → i ≡ length xs → Adds s s (behind f (drop i xs))
adds_behind_none s f i xs e = adds_text s s _ _ (sym (behind_none f (drop i xs) (omega (arith, length-drop i xs)))) (adds_nothing s)

-- the members from a place on, with what stands before each
abbrev pub spaced_from : {A : Type 0} → (A → Shown) → ℕ → List A → Shown
spaced_from f zero xs = spaced f xs
spaced_from f (suc i) xs = behind f (drop (suc i) xs)

nothing_first : (a : Shown) → Text [] ⋄ a ≡ a
unfolding ◌⋄◌
nothing_first (Text a) = refl
nothing_first (Deep p) = refl

first_then : {A : Type 0} (f : A → Shown) (x : A) (xs : List A) → spaced f (x ∷ xs) ≡ Text [] ⋄ (f x ⋄ behind f xs)
unfolding spaced
first_then f x xs = sym (nothing_first (f x ⋄ behind f xs))

spaced_next : {A : Type 0} (f : A → Shown) (i : ℕ) (xs : List A) → spaced_from f (i + 1) xs ≡ behind f (drop (i + 1) xs)
spaced_next f i xs = ap (λ (n : ℕ). spaced_from f n xs) (add-one i) ∙ sym (ap (λ (n : ℕ). behind f (drop n xs)) (add-one i))

spaced_then : {A : Type 0} (f : A → Shown) (i : ℕ) (xs : List A) (x : A) → i < length xs → x ≡ get_or xs i x → spaced_from f i xs ≡ space_before i ⋄ (f x ⋄ spaced_from f (i + 1) xs)
spaced_then f zero [] x lt e = absurd (omega arith)
spaced_then f zero (y ∷ ys) x lt e = ap (λ z. spaced f (z ∷ ys)) (sym e) ∙ first_then f x ys
spaced_then f (suc i) xs x lt e = behind_at f (suc i) xs x lt e ∙ ap (λ (z : Shown). Text (32 ∷ []) ⋄ (f x ⋄ z)) (sym (spaced_next f (suc i) xs))

-- one member, and then the rest
pub adds_spaced : {A : Type 0} (r s t u : Page) (f : A → Shown) (i : ℕ) (xs : List A) (x : A) → i < length xs → x ≡ get_or xs i x
    → Adds r s (space_before i) → Adds s t (f x) → Adds t u (spaced_from f (i + 1) xs) → Adds r u (spaced_from f i xs)
adds_spaced r s t u f i xs x lt e g h k = adds_text r u _ _ (sym (spaced_then f i xs x lt e)) (adds_then r s u _ _ g (adds_then s t u _ _ h k))

spaced_none : {A : Type 0} (f : A → Shown) (i : ℕ) (xs : List A) → i ≡ length xs → spaced_from f i xs ≡ Text []
unfolding spaced
spaced_none f zero [] e = refl
spaced_none f zero (x ∷ xs) e = absurd (omega arith)
spaced_none f (suc i) xs e = behind_none f (drop (suc i) xs) (omega (arith, length-drop (suc i) xs))

pub adds_spaced_none : {A : Type 0} (s : Page) (f : A → Shown) (i : ℕ) (xs : List A) → i ≡ length xs → Adds s s (spaced_from f i xs)
adds_spaced_none s f i xs e = adds_text s s _ _ (sym (spaced_none f i xs e)) (adds_nothing s)

-- a member that is not the first stands behind a space
pub space_at : (i : ℕ) → (i ≡ 0 → ⊥) → space_before i ≡ Text (32 ∷ [])
space_at zero ne = absurd (ne refl)
space_at (suc i) ne = refl

-- behind the last byte
pub adds_no_byte : (s : Page) (i : ℕ) (xs : List ℕ) → i ≡ length xs → Adds s s (Text (drop i xs))
adds_no_byte s i xs e = adds_text s s _ _ (ap Text (sym (nil_from_length (drop i xs) (omega (arith, length-drop i xs))))) (adds_nothing s)

-- a member is the same whatever would stand for one that is not there
get_or_same : {A : Type 0} (xs : List A) (i : ℕ) (d e : A) → i < length xs → get_or xs i d ≡ get_or xs i e
get_or_same [] i d e lt = absurd (omega arith)
get_or_same (x ∷ xs) zero d e lt = refl
get_or_same (x ∷ xs) (suc i) d e lt = get_or_same xs i d e (omega arith)

pub member_is : {A : Type 0} (xs : List A) (i : ℕ) (d : A) → i < length xs → get_or xs i d ≡ get_or xs i (get_or xs i d)
member_is xs i d lt = get_or_same xs i d (get_or xs i d) lt

-- ---- from the first text on

pub holds_then : (s t : Page) (a : Shown) → HoldsText s (Text []) → Adds s t a → HoldsText t a
holds_then s t a h k = subst (λ (x : Shown). HoldsText t x) (nothing_first a) (k.adds (Text []) h)

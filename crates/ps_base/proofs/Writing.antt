-- One text is written after another.
-- For: write_all, put, put_each, and all that writes a text from pieces
use Rattle.std.proofs.Common.{◌≡◌, ℕ, suc, ◌+◌, ◌-◌, ◌<◌, ◌≤◌, List, [], ◌∷◌, ◌++◌, length, take, drop, Option, Some, None, Result, Ok, Err, refl, sym, ap, subst, ◌∙◌, append_assoc, arith, length-append, get_or, drop-cons, add-one}
use Rattle.std.specs.Option.{option_map}
use Rattle.std.proofs.lemmas.List.{append-nil, take-append-drop, take_all, nil_from_length, length-drop}
use Rattle.ps_base.specs.declared.sink.SinkFault.{SinkFault}
use Rattle.ps_base.specs.SinkStates.{SinkState, TellsNumber}
use Rattle.ps_base.specs.Numbers.{more, Rose}
use Rattle.ps_base.specs.Sinks.{Appended, Cut, Writes, Adds}
use Rattle.ps_base.specs.Texts.{◌&◌, each}

pub bytes_join : (o : Option (List ℕ)) (a b : List ℕ) → option_map (λ bs. bs ++ b) (option_map (λ bs. bs ++ a) o) ≡ option_map (λ bs. bs ++ (a ++ b)) o
bytes_join None a b = refl
bytes_join (Some bs) a b = ap (λ (x : List ℕ). Some x) (append_assoc bs a b)

pub number_join : (o : Option ℕ) (a b c : ℕ) → c ≡ a + b → option_map (λ n. more n b) (option_map (λ n. more n a) o) ≡ option_map (λ n. more n c) o
number_join None a b c e = refl
number_join (Some n) a b c e = ap (λ (x : ℕ). Some x) (omega arith)

pub appended_join : (s t u : SinkState) (a b : List ℕ) → Appended s t a → Appended t u b → Appended s u (a ++ b)
appended_join s t u a b h k = record {
  bytes = k.bytes ∙ ap (option_map (λ bs. bs ++ b)) h.bytes ∙ bytes_join s.bytes a b;
  number = k.number ∙ ap (option_map (λ n. more n (length b))) h.number ∙ number_join s.number (length a) (length b) (length (a ++ b)) (length-append a b);
  faults = let x = h.faults in let y = k.faults in omega arith;
}

pub rose_after : (a b c : ℕ) → a ≤ b → Rose b c → Rose a c
rose_after a b c le h = omega arith

cut_join : (s t u : SinkState) (a b : List ℕ) → Appended s t a → Cut t u b → Cut s u (a ++ b)
cut_join s t u a b h k = record {
  front = a ++ k.front;
  rest = k.rest;
  parts = ap (λ (x : List ℕ). a ++ x) k.parts ∙ sym (append_assoc a k.front k.rest);
  appended = appended_join s t u a k.front h k.appended;
  rose = rose_after s.faults t.faults u.faults h.faults k.rose;
}

cut_more : (s t : SinkState) (a b : List ℕ) → Cut s t a → Cut s t (a ++ b)
cut_more s t a b h = record {
  front = h.front;
  rest = h.rest ++ b;
  parts = ap (λ (x : List ℕ). x ++ b) h.parts ∙ append_assoc h.front h.rest b;
  appended = h.appended;
  rose = h.rose;
}

writes_join : (s t u : SinkState) (a b : List ℕ) (r : Result (Unit {0}) SinkFault) → Appended s t a → Writes t u b r → Writes s u (a ++ b) r
writes_join s t u a b (Ok x) h k = appended_join s t u a b h k
writes_join s t u a b (Err e) h k = cut_join s t u a b h k

pub bytes_same : (o : Option (List ℕ)) → o ≡ option_map (λ bs. bs ++ []) o
bytes_same None = refl
bytes_same (Some bs) = ap (λ (x : List ℕ). Some x) (sym (append-nil bs))

pub number_same : (o : Option ℕ) → o ≡ option_map (λ n. more n 0) o
number_same None = refl
number_same (Some n) = ap (λ (x : ℕ). Some x) (omega arith)

-- a sink that tells its bytes tells their number, with more behind them
pub tells_more : (bytes : Option (List ℕ)) (number : Option ℕ) (held : List ℕ) → TellsNumber bytes number → TellsNumber (option_map (λ bs. bs ++ held) bytes) (option_map (λ n. more n (length held)) number)
tells_more None number held h = tt
tells_more (Some bs) number held h = ap (option_map (λ n. more n (length held))) h ∙ ap (λ (x : ℕ). Some x) (omega (arith, length-append bs held))

pub appended_nothing : (s : SinkState) → Appended s s []
appended_nothing s = record { bytes = bytes_same s.bytes; number = number_same s.number; faults = omega arith }

pub cut_nothing : (s t : SinkState) (text : List ℕ) → Appended s t [] → Rose s.faults t.faults → Cut s t text
cut_nothing s t text h r = record { front = []; rest = text; parts = refl; appended = h; rose = r }

-- a part of the text was written, and then the rest
writes_part : (s t u : SinkState) (text : List ℕ) (k : ℕ) (r : Result (Unit {0}) SinkFault) → Appended s t (take k text) → Writes t u (drop k text) r → Writes s u text r
writes_part s t u text k r h w = subst (λ (x : List ℕ). Writes s u x r) (take-append-drop k text) (writes_join s t u (take k text) (drop k text) r h w)

pub writes_rest : (s t u : SinkState) (text : List ℕ) (k n : ℕ) (r : Result (Unit {0}) SinkFault) → n ≡ length text - k → Appended s t (take k text) → Writes t u (take n (drop k text)) r → Writes s u text r
writes_rest s t u text k n r e h w = writes_part s t u text k r h (subst (λ (x : List ℕ). Writes t u x r) (take_all n (drop k text) (omega (arith, length-drop k text))) w)

pub appended_empty : (s : SinkState) (text : List ℕ) → length text ≡ 0 → Appended s s text
appended_empty s text e = subst (λ (x : List ℕ). Appended s s x) (sym (nil_from_length text e)) (appended_nothing s)

pub adds_then : (s t u : SinkState) (q r x : Result (Unit {0}) SinkFault) (a b : List ℕ) → Adds s q t r a → Adds t r u x b → Adds s q u x (a & b)
unfolding ◌&◌
adds_then s t u q r x a b h k = record { holds = λ start front w. subst (λ (y : List ℕ). Writes start u y x) (append_assoc front a b) (k.holds start (front ++ a) (h.holds start front w)) }

pub adds_written : (s t : SinkState) (r : Result (Unit {0}) SinkFault) (text : List ℕ) (done : Unit {0}) → Writes s t text r → Adds s (Ok done) t r text
adds_written s t r text done w = record { holds = λ start front h. writes_join start s t front text r h w }

-- what was added from the start was written
pub adds_from_start : (s t : SinkState) (r : Result (Unit {0}) SinkFault) (text : List ℕ) (done : Unit {0}) → Adds s (Ok done) t r text → Writes s t text r
adds_from_start s t r text done h = h.holds s [] (appended_nothing s)

pub adds_nothing : (s : SinkState) (q : Result (Unit {0}) SinkFault) → Adds s q s q []
adds_nothing s q = record { holds = λ start front w. subst (λ (y : List ℕ). Writes start s y q) (sym (append-nil front)) w }

each_cons : {A : Type 0} (f : ℕ → A → List ℕ) (k j : ℕ) (xs ys : List A) (x : A) → xs ≡ x ∷ ys → j ≡ suc k → each f k xs ≡ f k x & each f j ys
unfolding each
each_cons f k j xs ys x e h = rw (e, h) refl

pub each_at : {A : Type 0} (f : ℕ → A → List ℕ) (k i : ℕ) (xs : List A) (x : A) → i < length xs → x ≡ get_or xs i x → each f (k + i) (drop i xs) ≡ f (k + i) x & each f (k + (i + 1)) (drop (i + 1) xs)
each_at f k i xs x lt e = each_cons f (k + i) (k + (i + 1)) (drop i xs) (drop (i + 1) xs) x (drop-cons xs i x lt ∙ ap (λ y. y ∷ drop (suc i) xs) (sym e) ∙ ap (λ (n : ℕ). x ∷ drop n xs) (sym (add-one i))) (omega arith)

pub each_none : {A : Type 0} (f : ℕ → A → List ℕ) (k : ℕ) (xs : List A) → length xs ≡ 0 → each f k xs ≡ []
unfolding each
each_none f k xs e = rw (nil_from_length xs e) refl

pub adds_last : (s t : SinkState) (q r : Result (Unit {0}) SinkFault) (a : List ℕ) → Adds s q t r a → Adds s q t r (a & [])
unfolding ◌&◌
adds_last s t q r a h = subst (λ (y : List ℕ). Adds s q t r y) (sym (append-nil a)) h

pub join_assoc : (a b c : List ℕ) → (a & b) & c ≡ a & (b & c)
unfolding ◌&◌
join_assoc a b c = append_assoc a b c

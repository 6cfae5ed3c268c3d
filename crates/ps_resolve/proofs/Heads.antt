-- Heads of definitions.
-- For: `read_definition` and `is_main`
use Rattle.std.proofs.Common.{◌≡◌, ℕ, ◌≤◌, List, [], ◌∷◌, map, length, drop, get_or, Bool, true, false, Some, None, refl, sym, ap, ◌∙◌, arith, subst, ⊎_elim, ◌⊎◌, inl, inr}
use Rattle.std.specs.Prelude.{Option, codes, if◌then◌else◌}
use Rattle.std.specs.List.{list_all}
use Rattle.std.specs.Cmp.Derive.{both_true}
use Rattle.std.proofs.lemmas.List.{length-map}
use Rattle.ps_base.specs.declared.names.Name.{Name}
use Rattle.ps_datum.specs.declared.datum.Datum.{Datum, out-Datum}
use Rattle.ps_plain.specs.Forms.{Scope, Part, part, Head, IsHead, main_head, and_also, head_by, first_symbol, is_name}
use Rattle.ps_plain.proofs.Lists.{joined}
use Rattle.ps_plain.proofs.Tests.{and_true}
use Rattle.ps_resolve.specs.InsideDefinitions.{words_of, procedure_at, IsDefine, AreParameters}
use Rattle.ps_resolve.proofs.Options.{length-all_some}

true_or_false : (b : Bool) → (b ≡ true) ⊎ (b ≡ false)
true_or_false true = inl refl
true_or_false false = inr refl

-- the words of a head
pub record AreWords (ws : Option (List (List ℕ))) (h : Head) : Type 0 where
  pub words : ws ≡ Some (h.name ∷ h.parameters)
  pub are_names : list_all is_name (h.name ∷ h.parameters) ≡ true

abbrev head_named : List ℕ → List (List ℕ) → Option Head
head_named f xs = Some (record { name = f; parameters = xs })

head_is : (f : List ℕ) (xs : List (List ℕ)) (h : Head) → head_named f xs ≡ Some h → record { name = f; parameters = xs } ≡ h
head_is f xs h e = cc

pub words-of_head : (ws : Option (List (List ℕ))) (h : Head) → head_by ws ≡ Some h → AreWords ws h
words-of_head None h e = cc
words-of_head (Some []) h e = cc
words-of_head (Some (f ∷ xs)) h e =
    ⊎_elim
    (λ yes.
    let same = sym (ap (λ b. if b then head_named f xs else None) yes) ∙ e in
    let is = head_is f xs h same in
    subst (AreWords (Some (f ∷ xs))) is (record { words = refl; are_names = yes }))
    (λ no. let none = sym (ap (λ b. if b then head_named f xs else None) no) ∙ e in cc)
    (true_or_false (list_all is_name (f ∷ xs)))

pub head-of_words : (ws : Option (List (List ℕ))) (h : Head) → AreWords ws h → head_by ws ≡ Some h
head-of_words ws h a = ap head_by a.words ∙ ap (λ b. if b then Some h else None) a.are_names

-- the only member of a list
only : {A : Type 0} (xs : List A) (d : A) → 1 ≤ length xs → length xs ≤ 1 → d ≡ get_or xs 0 d → xs ≡ d ∷ []
only [] d a b is = absurd (omega arith)
only (x ∷ []) d a b is = ap (λ z. z ∷ []) (sym is)
only (x ∷ y ∷ xs) d a b is = absurd (omega arith)

-- (define (main x ...) ...) is not that of `main`
pub too_many : (names : List (List ℕ)) (form : Datum) (words body : List Datum) → IsDefine names form words body → 2 ≤ length words → (part names form).head ≡ Some main_head → ⊥
too_many names form words body is long h =
    let w = words-of_head (words_of names words) main_head (sym is.head ∙ h) in
    let n = length-all_some (map (λ (p : Part). p.word) (map (part names) words)) (codes "main" ∷ []) w.words in
    omega (arith, n, length-map (map (part names) words) (λ (p : Part). p.word), length-map words (part names))

-- (define (w) ...) is that of `main` where w is that word
module _ (names : List (List ℕ)) (form : Datum) (words body : List Datum) (is : IsDefine names form words body) (d : Datum) (w : List ℕ) (word : (part names d).word ≡ Some w) (a : 1 ≤ length words) (b : length words ≤ 1) (at : d ≡ get_or words 0 d) where
  one_word : words_of names words ≡ Some (w ∷ [])
  one_word = ap (words_of names) (only words d a b at) ∙ ap (λ z. and_also z (Some [])) word

  pub main_named : w ≡ codes "main" → (part names form).head ≡ Some main_head
  main_named e = is.head ∙ ap head_by one_word ∙ ap (λ z. head_by (Some (z ∷ []))) e

  pub name-of_main : (part names form).head ≡ Some main_head → w ≡ codes "main"
  name-of_main h =
      let ws = words-of_head (words_of names words) main_head (sym is.head ∙ h) in
      let same : Some (w ∷ []) ≡ Some (codes "main" ∷ []) = sym one_word ∙ ws.words in
      cc

-- the parameters of a head
pub AreParameters-of_head : (names : List (List ℕ)) (form : Datum) (words body : List Datum) → IsDefine names form words body → 1 ≤ length words → (h : Head) → (part names form).head ≡ Some h → IsHead h → AreParameters names (drop 1 words) h.parameters
AreParameters-of_head names form [] body is long h e fine = absurd (omega arith)
AreParameters-of_head names form (d ∷ words) body is long h e fine =
    let w = words-of_head (words_of names (d ∷ words)) h (sym is.head ∙ e) in
    let p = joined (part names d).word (words_of names words) (h.name ∷ h.parameters) w.words in
    let same : h.parameters ≡ p.rest = cc in
    record {
      words = p.is_rest ∙ ap Some (sym same);
      are_names = (and_true (is_name h.name) (list_all is_name h.parameters) w.are_names).1;
      is_distinct = fine.distinct;
      few = fine.few;
    }

-- the head of a name and parameters
pub head-of_parameters : (names : List (List ℕ)) (form : Datum) (words body : List Datum) → IsDefine names form words body → 1 ≤ length words → (d : Datum) → d ≡ get_or words 0 d → (f : List ℕ) → (part names d).word ≡ Some f → is_name f ≡ true → (xs : List (List ℕ)) → AreParameters names (drop 1 words) xs → (part names form).head ≡ Some (record { name = f; parameters = xs })
head-of_parameters names form [] body is long d at f word is_one xs are = absurd (omega arith)
head-of_parameters names form (e ∷ words) body is long d at f word is_one xs are =
    is.head ∙ head-of_words (words_of names (e ∷ words)) (record { name = f; parameters = xs }) (record {
      words = (λ i. and_also ((ap (λ z. (part names z).word) (sym at) ∙ word) i) (are.words i));
      are_names = both_true is_one are.are_names;
    })

-- the number of the word that stands first
pub first_word : (names : List (List ℕ)) (words : List Datum) → 1 ≤ length words → (d : Datum) → d ≡ get_or words 0 d → (f : Name) → (part names d).symbol ≡ Some f → first_symbol (map (part names) words) ≡ Some f
first_word names [] long d at f is = absurd (omega arith)
first_word names (e ∷ words) long d at f is = ap (λ z. (part names z).symbol) (sym at) ∙ is

-- the procedure of a definition, by its name
module _ (names : List (List ℕ)) (form : Datum) (words body : List Datum) (is : IsDefine names form words body) (long : 1 ≤ length words) (d : Datum) (at : d ≡ get_or words 0 d) (f : Name) (symbol : (part names d).symbol ≡ Some f) where
  pub procedure-of_name : (s : Scope) → (part names form).procedure s ≡ procedure_at names (out-Datum form).place (Some f) s body
  procedure-of_name s = is.procedure s ∙ ap (λ z. procedure_at names (out-Datum form).place z s body) (first_word names words long d at f symbol)

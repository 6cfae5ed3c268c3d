-- Names are taken one after another until one has another binding.
-- For: two_opened, take_opened, take_language, take_words, take_exports
use Rattle.std.proofs.Common.{◌≡◌, ℕ, ◌+◌, ◌<◌, ◌≤◌, List, [], ◌∷◌, ◌++◌, length, map, drop, get_or, Bool, true, false, cond, nat_eq, Option, Some, None, Result, Ok, refl, sym, ap, subst, ◌∙◌, if◌then◌else◌, Bor}
use Rattle.std.specs.Option.{option_and_then}
use Rattle.std.specs.Map.{lookup}
use Rattle.std.proofs.lemmas.List.{map-append, drop_all}
use Rattle.ps_base.specs.Names.{number_of}
use Rattle.ps_base.specs.declared.memory.NoMemory.{NoMemory}
use Rattle.ps_read.specs.Lexical.{Table}
use Rattle.ps_modules.specs.declared.openings.Meant.{Meant}
use Rattle.ps_modules.specs.declared.types.Structure.{Structure}
use Rattle.ps_modules.specs.BuiltIn.{language_names, memory_names, record_names, all_names}
use Rattle.ps_modules.specs.InsideOpenings.{Takes}
use Rattle.ps_modules.specs.Openings.{Given, given_by, and_number, numbers_in, gives, owner_of, same_owner, taken_by, taken, all_taken, unless_taken, two_opened}
use Rattle.ps_modules.proofs.Gathering.{item_at}

abbrev Known : Type 0
Known = Option (List Given)

-- ---- one name

pub taken_known : (known : List Given) (name : ℕ) (owner other : Option ℕ) (same : Bool) → owner_of known name ≡ Some other → same ≡ same_owner other owner → Takes (taken known (name, owner)) known (Ok same)
taken_known known name owner other true is e = ap (taken_by known (name, owner)) is ∙ ap (λ b. if b then Some known else None) (sym e)
taken_known known name owner other false is e = ap (taken_by known (name, owner)) is ∙ ap (λ b. if b then Some known else None) (sym e)

pub taken_new : (known : List Given) (name : ℕ) (owner : Option ℕ) (after : List Given) → owner_of known name ≡ None → after ≡ known ++ (name, owner) ∷ [] → taken known (name, owner) ≡ Some after
taken_new known name owner after is e = ap (taken_by known (name, owner)) is ∙ ap (λ ks. Some ks) (sym e)

pub not_taken : (want : Known) (after : List Given) (b : Bool) → b ≡ false → Takes want after (Ok b) → want ≡ None
not_taken want after false e h = h
not_taken want after true e h = absurd (cc)

pub was_taken : (want : Known) (after : List Given) (b : Bool) → b ≡ true → Takes want after (Ok b) → want ≡ Some after
was_taken want after true e h = h
was_taken want after false e h = absurd (cc)

-- ---- names in a row

then_append : (o : Known) (f g h : List Given → Known) → ((k : List Given) → f k ≡ option_and_then h (g k)) → option_and_then f o ≡ option_and_then h (option_and_then g o)
then_append None f g h e = refl
then_append (Some k) f g h e = e k

pub all_taken_append : (known first rest : List Given) → all_taken known (first ++ rest) ≡ option_and_then (λ more. all_taken more rest) (all_taken known first)
all_taken_append known [] rest = refl
all_taken_append known (n ∷ first) rest = then_append (taken known n) (λ more. all_taken more (first ++ rest)) (λ more. all_taken more first) (λ more. all_taken more rest) (λ k. all_taken_append k first rest)

and_append : (o : Option ℕ) (all first rest : List ℕ) → all ≡ first ++ rest → and_number o all ≡ and_number o first ++ rest
and_append None all first rest e = e
and_append (Some n) all first rest e = ap (λ ns. n ∷ ns) e

pub numbers_append : (table : Table) (first rest : List (List ℕ)) → numbers_in table (first ++ rest) ≡ numbers_in table first ++ numbers_in table rest
numbers_append table [] rest = refl
numbers_append table (t ∷ first) rest = and_append (number_of table t) (numbers_in table (first ++ rest)) (numbers_in table first) (numbers_in table rest) (numbers_append table first rest)

-- what the words of two rows give, one row behind the other
pub words_append : (known : List Given) (table : Table) (first rest : List (List ℕ)) → all_taken known (given_by None (numbers_in table (first ++ rest)))
    ≡ option_and_then (λ more. all_taken more (given_by None (numbers_in table rest))) (all_taken known (given_by None (numbers_in table first)))
words_append known table first rest = ap (λ ns. all_taken known (given_by None ns)) (numbers_append table first rest)
    ∙ ap (all_taken known) (map-append (λ n. (n, None)) (numbers_in table first) (numbers_in table rest))
    ∙ all_taken_append known (given_by None (numbers_in table first)) (given_by None (numbers_in table rest))

abbrev words : Table → List (List ℕ) → List Given
words table texts = given_by None (numbers_in table texts)

module _ (known : List Given) (table : Table) where
  pub language_none : all_taken known (words table language_names) ≡ None → all_taken known (words table all_names) ≡ None
  language_none e = words_append known table language_names (memory_names ++ record_names) ∙ ap (option_and_then (λ more. all_taken more (words table (memory_names ++ record_names)))) e

  module _ (mid : List Given) (first : all_taken known (words table language_names) ≡ Some mid) where
    behind_language : all_taken known (words table all_names) ≡ option_and_then (λ more. all_taken more (words table record_names)) (all_taken mid (words table memory_names))
    behind_language = words_append known table language_names (memory_names ++ record_names) ∙ ap (option_and_then (λ more. all_taken more (words table (memory_names ++ record_names)))) first
        ∙ words_append mid table memory_names record_names

    pub memory_none : all_taken mid (words table memory_names) ≡ None → all_taken known (words table all_names) ≡ None
    memory_none e = behind_language ∙ ap (option_and_then (λ more. all_taken more (words table record_names))) e

    pub language_all : (last : List Given) → all_taken mid (words table memory_names) ≡ Some last → (after : List Given) (r : Result Bool NoMemory) → Takes (all_taken last (words table record_names)) after r
        → Takes (all_taken known (words table all_names)) after r
    language_all last e after r h = subst (λ w. Takes w after r) (sym (behind_language ∙ ap (option_and_then (λ more. all_taken more (words table record_names))) e)) h

-- a word that stands in the table is a name, and another one is none
pub words_some : (table : Table) (x : Bor (List ℕ)) (rest : List (Bor (List ℕ))) (n : ℕ) → number_of table x.now ≡ Some n
    → words table (map (λ w. w.now) (x ∷ rest)) ≡ (n, None) ∷ words table (map (λ w. w.now) rest)
words_some table x rest n e = ap (λ o. given_by None (and_number o (numbers_in table (map (λ w. w.now) rest)))) e

pub words_none : (table : Table) (x : Bor (List ℕ)) (rest : List (Bor (List ℕ))) → number_of table x.now ≡ None → words table (map (λ w. w.now) (x ∷ rest)) ≡ words table (map (λ w. w.now) rest)
words_none table x rest e = ap (λ o. given_by None (and_number o (numbers_in table (map (λ w. w.now) rest)))) e

-- a row was taken: what is taken behind it
pub then_taken : (want : Known) (goes : List Given → Known) (more : List Given) (after : List Given) (r : Result Bool NoMemory) → want ≡ Some more → Takes (goes more) after r → Takes (option_and_then goes want) after r
then_taken want goes more after r e h = subst (λ w. Takes (option_and_then goes w) after r) (sym e) h

pub takes_as : (want v : Known) (after : List Given) (r : Result Bool NoMemory) → v ≡ want → Takes want after r → Takes v after r
takes_as want v after r e h = subst (λ w. Takes w after r) (sym e) h

pub none_then : (want : Known) (goes : List Given → Known) → want ≡ None → option_and_then goes want ≡ None
none_then want goes e = ap (option_and_then goes) e

-- the first i things gave what is known
pub record TakenSo {A : Type 0} (give : List A → List Given) (xs : List A) (first known : List Given) (i : ℕ) : Type 0 where
  pub is : all_taken first (give xs) ≡ all_taken known (give (drop i xs))

module _ {A : Type 0} (give : List A → List Given) (xs : List A) (first known : List Given) (i : ℕ) (so : TakenSo give xs first known i) where
  module _ (x : A) (lt : i < length xs) (at : x ≡ get_or xs i x) where
    here : all_taken first (give xs) ≡ all_taken known (give (x ∷ drop (i + 1) xs))
    here = so.is ∙ ap (λ ys. all_taken known (give ys)) (item_at xs i x lt at)

    -- the next gives nothing
    pub gives_nothing : give (x ∷ drop (i + 1) xs) ≡ give (drop (i + 1) xs) → TakenSo give xs first known (i + 1)
    gives_nothing e = record { is = here ∙ ap (all_taken known) e }

    module _ (g : Given) (e : give (x ∷ drop (i + 1) xs) ≡ g ∷ give (drop (i + 1) xs)) where
      next : all_taken first (give xs) ≡ option_and_then (λ more. all_taken more (give (drop (i + 1) xs))) (taken known g)
      next = here ∙ ap (all_taken known) e

      pub gives_more : (after : List Given) → taken known g ≡ Some after → TakenSo give xs first after (i + 1)
      gives_more after h = record { is = next ∙ ap (option_and_then (λ more. all_taken more (give (drop (i + 1) xs)))) h }

      pub gives_other : taken known g ≡ None → all_taken first (give xs) ≡ None
      gives_other h = next ∙ ap (option_and_then (λ more. all_taken more (give (drop (i + 1) xs)))) h

  pub gives_end : give [] ≡ [] → length xs ≤ i → all_taken first (give xs) ≡ Some known
  gives_end e past = so.is ∙ ap (λ ys. all_taken known (give ys)) (drop_all i xs past) ∙ ap (all_taken known) e

-- ---- opened names

pub record OpenedSo (table : Table) (order : List Structure) (meants : List Meant) (known : List Given) (i : ℕ) : Type 0 where
  pub is : two_opened table order [] meants ≡ two_opened table order known (drop i meants)

pub opens_start : (table : Table) (order : List Structure) (meants : List Meant) (known : List Given) → known ≡ [] → OpenedSo table order meants known 0
opens_start table order meants known e = record { is = ap (λ ks. two_opened table order ks meants) (sym e) }

module _ (table : Table) (order : List Structure) (meants : List Meant) (known : List Given) (i : ℕ) (so : OpenedSo table order meants known i) where
  module _ (m : Meant) (lt : i < length meants) (at : m ≡ get_or meants i m) where
    opens_next : (o : Known) → all_taken known (gives table order m.opened) ≡ o → two_opened table order [] meants ≡ unless_taken m.place o (λ more. two_opened table order more (drop (i + 1) meants))
    opens_next o e = so.is ∙ ap (two_opened table order known) (item_at meants i m lt at) ∙ ap (λ q. unless_taken m.place q (λ more. two_opened table order more (drop (i + 1) meants))) e

    pub opens_on : (after : List Given) → all_taken known (gives table order m.opened) ≡ Some after → OpenedSo table order meants after (i + 1)
    opens_on after e = record { is = opens_next (Some after) e }

    pub opens_clash : all_taken known (gives table order m.opened) ≡ None → two_opened table order [] meants ≡ Some m.place
    opens_clash e = opens_next None e

  pub opens_end : length meants ≤ i → two_opened table order [] meants ≡ None
  opens_end past = so.is ∙ ap (two_opened table order known) (drop_all i meants past)

-- ---- the map of owners

pub owner-is : (known : List Given) (name : ℕ) → lookup (nat_eq name) known ≡ owner_of known name
owner-is [] name = refl
owner-is (k ∷ known) name = ap (λ o. cond (nat_eq name k.0) (Some k.1) o) (owner-is known name)

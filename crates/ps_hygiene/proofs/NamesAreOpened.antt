-- Names that are opened in turns are those of one list.
-- For: open, open_language
use Rattle.std.proofs.Common.{◌≡◌, ◌∙◌, ℕ, List, [], ◌∷◌, ◌++◌, refl, ap, sym, subst, Result, Ok, Err}
use Rattle.std.specs.Prelude.{OnOk}
use Rattle.ps_base.specs.declared.memory.NoMemory.{NoMemory}
use Rattle.ps_modules.specs.declared.types.Opened.{Opened}
use Rattle.ps_modules.specs.declared.types.Opened.TheVariants as opened
use Rattle.ps_modules.specs.declared.types.Structure.{Structure}
use Rattle.ps_scope.specs.Environments.{Entry}
use Rattle.ps_hygiene.specs.Answers.{Seen, seen_of}
use Rattle.ps_hygiene.specs.InsideOpening.{opened_by}
use Rattle.ps_hygiene.specs.Language.{Word, all_words, form_words, number_words, block_words, memory_words, record_words}
use Rattle.ps_hygiene.specs.Opening.{with_words, with_opened}

module _ (names : List (List ℕ)) where
  words_append : (k : ℕ) (first rest : List Word) (es : List Entry) → with_words names k (first ++ rest) es ≡ with_words names k rest (with_words names k first es)
  words_append k [] rest es = refl
  words_append k (word ∷ first) rest es = words_append k first rest _

  abbrev with_more : List Word → Seen → Seen
  with_more words h = seen_of h.here (opened_by (with_words names h.world.structure words) h.world)

  in_two : (first rest : List Word) (h : Seen) → with_more rest (with_more first h) ≡ with_more (first ++ rest) h
  in_two first rest h = ap (λ es. seen_of h.here (opened_by (λ _. es) h.world)) (sym (words_append h.world.structure first rest h.world.opened))

  abbrev language_words : List Word
  language_words = form_words ++ number_words ++ block_words

  in_three : (h i j k : Seen) → i ≡ with_more language_words h → j ≡ with_more memory_words i → k ≡ with_more record_words j → k ≡ with_more all_words h
  in_three h i j k a b c = c ∙ ap (with_more record_words) (b ∙ ap (with_more memory_words) a) ∙ in_two memory_words record_words (with_more language_words h)
      ∙ in_two language_words (memory_words ++ record_words) h

  pub language_opened : (r : Result (Unit {0}) NoMemory) (h i j k : Seen) → i ≡ with_more language_words h → j ≡ with_more memory_words i → OnOk r (k ≡ with_more record_words j) → OnOk r (k ≡ with_more all_words h)
  language_opened (Ok x) h i j k a b c = in_three h i j k a b c
  language_opened (Err e) h i j k a b c = c

  module _ (order : List Structure) (r : Result (Unit {0}) NoMemory) (h k : Seen) (o : Opened) where
    abbrev Opens : Opened → Type 0
    Opens o = OnOk r (k ≡ seen_of h.here (opened_by (with_opened names order h.world.own h.world.structure o) h.world))

    pub memory_opened : o ≡ opened.Memory → OnOk r (k ≡ with_more memory_words h) → Opens o
    memory_opened e t = subst Opens (sym e) t

    pub records_opened : o ≡ opened.Records → OnOk r (k ≡ with_more record_words h) → Opens o
    records_opened e t = subst Opens (sym e) t

use Rattle.std.proofs.Common.{◌≡◌, ℕ, List, true, ap, sym, ◌∙◌, subst, arith}
use Rattle.std.specs.Str.Parse.{without_leading_sign, signed_digits_value}
use Rattle.std.proofs.lemmas.Str.{IsUtf8-from_ascii}
use Rattle.ps_base.specs.Numbers.{fit}
use Rattle.ps_read.specs.Lexical.{is_numeral}
use Rattle.ps_read.proofs.DigitsAreParsed.{IsNumeral-from_test, signed_ascii, parsed}
use Rattle.ps_read.proofs.numbers.integer.Goals as goal

pub returns-in_default : goal.returns-in_default
returns-in_default c =
    let numeral = IsNumeral-from_test c.args.base (without_leading_sign c.args.run.now) c.requires.digits in
    absurd (c.in_default.ensures.cases.0 (IsUtf8-from_ascii c.args.run.now (signed_ascii c.args.base (omega arith) c.args.run.now numeral.1)))

pub returns : goal.returns
returns c =
    let same = c.in-Ok.ensures.cases.0 in
    let digits = subst (λ (text : List ℕ). is_numeral c.args.base (without_leading_sign text) ≡ true) (sym same) c.requires.digits in
    c.ok.ensures.value ∙ parsed c.args.base c.in-Ok.text.now c.from_str_radix.result digits c.from_str_radix.ensures.value ∙ ap (λ (text : List ℕ). fit (signed_digits_value c.args.base text)) same

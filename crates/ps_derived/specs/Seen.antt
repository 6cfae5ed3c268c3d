-- What parts are that refer to forms (this project's own). Read `seen x` as: the parts x, with each form in place of the reference to it.
use Rattle.std.specs.Prelude.{List, map}
use Rattle.std.specs.Option.{option_copied}
use Rattle.std.specs.Borrow.{Bor}
use Rattle.ps_pattern.specs.declared.syntax.Ident.{Ident}
use Rattle.ps_derived.specs.declared.types.Binding.{Binding}
use Rattle.ps_derived.specs.declared.types.LoopBinding.{LoopBinding}
use Rattle.ps_derived.specs.declared.types.Macro.{Macro}
use Rattle.ps_derived.specs.declared.types.Defined.{Defined}
use Rattle.ps_derived.specs.declared.types.Defined.TheVariants as d
use Rattle.ps_derived.specs.declared.types.Clause.{Clause}
use Rattle.ps_derived.specs.declared.types.Clause.TheVariants as c
use Rattle.ps_derived.specs.declared.types.CaseClause.{CaseClause}
use Rattle.ps_derived.specs.declared.types.Field.{Field}
use Rattle.ps_derived.specs.declared.types.RecordType.{RecordType}
use Rattle.ps_derived.specs.declared.types.Quoted.{Quoted}
use Rattle.ps_derived.specs.declared.types.Quoted.TheVariants as q
use Rattle.ps_derived.specs.declared.types.Parts.{Parts}
use Rattle.ps_derived.specs.declared.types.Parts.TheVariants as t
use Rattle.ps_derived.specs.PartsOf.{BindingOf, LoopBindingOf, MacroOf, DefinedOf, ClauseOf, CaseClauseOf, FieldOf, RecordTypeOf, PartsOf}
use Rattle.ps_derived.specs.PartsOf as p
use Rattle.ps_derived.specs.Quotation.{QuotedOf}
use Rattle.ps_derived.specs.Quotation as u

abbrev pub idents : List (Bor Ident) → List Ident
idents ids = map (λ id. id.now) ids

abbrev pub seen_binding : Binding → BindingOf
seen_binding x = record { name = x.name.now; value = x.value.now }

abbrev pub seen_loop_binding : LoopBinding → LoopBindingOf
seen_loop_binding x = record { name = x.name.now; first = x.first.now; step = option_copied x.step }

abbrev pub seen_macro : Macro → MacroOf
seen_macro x = record { keyword = x.keyword.now; rules = x.rules.now }

abbrev pub seen_defined : Defined → DefinedOf
seen_defined (d.Variable x e) = p.Variable x.now e.now
seen_defined (d.Procedure f ids body) = p.Procedure f.now (idents ids) body.now

abbrev pub seen_clause : Clause → ClauseOf
seen_clause (c.Alone t) = p.Alone t.now
seen_clause (c.Arrow t f) = p.Arrow t.now f.now
seen_clause (c.Then t es) = p.Then t.now es.now

abbrev pub seen_case_clause : CaseClause → CaseClauseOf
seen_case_clause x = record { labels = x.labels; body = x.body.now }

abbrev pub seen_field : Field → FieldOf
seen_field x = record { name = x.name.now; kind = x.kind.now; accessor = x.accessor.now; modifier = option_copied x.modifier }

abbrev pub seen_record : RecordType → RecordTypeOf
seen_record x = record {
  name = x.name.now;
  kind = x.kind.now;
  maker = x.maker.now;
  operands = x.operands;
  predicate = option_copied x.predicate;
  fields = map seen_field x.fields;
}

abbrev pub seen_quoted : Quoted → QuotedOf
seen_quoted (q.Integer x) = u.Integer x
seen_quoted (q.Boolean x) = u.Boolean x
seen_quoted (q.Char x) = u.Char x
seen_quoted (q.Block f) = u.Block f.now

abbrev pub seen : Parts → PartsOf
seen (t.Define x) = p.Define (seen_defined x)
seen (t.DefineSyntax x) = p.DefineSyntax (seen_macro x)
seen (t.RecordType x) = p.RecordType (seen_record x)
seen (t.Lambda ids body) = p.Lambda (idents ids) body.now
seen (t.If a b c) = p.If a.now b.now (option_copied c)
seen (t.Let bs body) = p.Let (map seen_binding bs) body.now
seen (t.NamedLet f bs body) = p.NamedLet f.now (map seen_binding bs) body.now
seen (t.LetStar bs body) = p.LetStar (map seen_binding bs) body.now
seen (t.Letrec bs body) = p.Letrec (map seen_binding bs) body.now
seen (t.Begin es) = p.Begin es.now
seen (t.Set x e) = p.Set x.now e.now
seen (t.Quote d) = p.Quote d.now
seen (t.Cond cs last) = p.Cond (map seen_clause cs) (option_copied last)
seen (t.Case k cs last) = p.Case k.now (map seen_case_clause cs) (option_copied last)
seen (t.And es) = p.And es.now
seen (t.Or es) = p.Or es.now
seen (t.Do bs e es commands) = p.Do (map seen_loop_binding bs) e.now es.now commands.now
seen (t.Goto f es) = p.Goto f.now es.now
seen (t.LetSyntax ms body) = p.LetSyntax (map seen_macro ms) body.now
seen (t.LetrecSyntax ms body) = p.LetrecSyntax (map seen_macro ms) body.now

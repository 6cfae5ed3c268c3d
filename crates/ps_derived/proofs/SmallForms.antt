-- The small forms, taken apart.
-- For: worked_forms
use Rattle.std.proofs.Common.{refl}
use Rattle.ps_pattern.specs.declared.syntax.SyntaxNode.TheVariants.{outs-List, outs-Ident, outs-Integer, outs-Text, outs-Vector}
use Rattle.ps_derived.proofs.Constants.{constant_is}
use Rattle.ps_derived.proofs.Views.{view_is, type_is}
use Rattle.ps_derived.specs.Worked.{Definitions, Lambdas, Choices, Bindings, Sequences, Clauses, Cases, Loops, RecordTypes, Quotations, FieldTypes, WorkedForms}

definitions_are : Definitions
definitions_are = record {
  variable = simp (outs-List, outs-Ident) refl;
  procedure = simp (outs-List, outs-Ident) refl;
  without_value = simp (outs-List, outs-Ident) refl;
  two_values = simp (outs-List, outs-Ident) refl;
  without_body = simp outs-List refl;
  nameless = simp outs-List refl;
  no_parameter = simp (outs-List, outs-Ident, outs-Integer) refl;
  syntax = simp (outs-List, outs-Ident) refl;
  without_rules = simp outs-List refl;
}

lambdas_are : Lambdas
lambdas_are = record {
  none = simp outs-List refl;
  two = simp (outs-List, outs-Ident) refl;
  twice = simp (outs-List, outs-Ident) refl;
  stamped = simp (outs-List, outs-Ident) refl;
  no_list = simp (outs-List, outs-Ident) refl;
  without_body = simp outs-List refl;
}

choices_are : Choices
choices_are = record {
  two = simp outs-List refl;
  three = simp outs-List refl;
  test_alone = simp outs-List refl;
  four = simp outs-List refl;
  no_list = simp outs-Integer refl;
}

bindings_are : Bindings
bindings_are = record {
  plain = simp (outs-List, outs-Ident) refl;
  named = simp (outs-List, outs-Ident) refl;
  sequence = simp (outs-List, outs-Ident) refl;
  group = simp outs-List refl;
  let_twice = simp (outs-List, outs-Ident) refl;
  sequence_twice = simp (outs-List, outs-Ident) refl;
  group_twice = simp (outs-List, outs-Ident) refl;
  without_value = simp outs-List refl;
  no_name = simp (outs-List, outs-Integer) refl;
  without_body = simp outs-List refl;
  macros = simp (outs-List, outs-Ident) refl;
  group_of_macros = simp (outs-List, outs-Ident) refl;
  macros_twice = simp (outs-List, outs-Ident) refl;
}

sequences_are : Sequences
sequences_are = record {
  begin = simp outs-List refl;
  begin_nothing = simp outs-List refl;
  set = simp (outs-List, outs-Ident) refl;
  set_no_name = simp (outs-List, outs-Integer) refl;
  quote = simp outs-List refl;
  quote_two = simp outs-List refl;
  and = simp outs-List refl;
  or = simp outs-List refl;
  goto = simp outs-List refl;
  goto_nothing = simp outs-List refl;
}

clauses_are : Clauses
clauses_are = record {
  nothing = simp outs-List refl;
  alone = simp (outs-List, outs-Ident) refl;
  arrow = simp (outs-List, outs-Ident) refl;
  otherwise = simp (outs-List, outs-Ident) refl;
  otherwise_arrow = simp (outs-List, outs-Ident) refl;
  arrow_nothing = simp (outs-List, outs-Ident) refl;
  arrow_two = simp (outs-List, outs-Ident) refl;
  empty = simp outs-List refl;
  otherwise_nothing = simp (outs-List, outs-Ident) refl;
  otherwise_first = simp (outs-List, outs-Ident) refl;
  bound_otherwise = simp (outs-List, outs-Ident) refl;
  bound_arrow = simp (outs-List, outs-Ident) refl;
}

cases_are : Cases
cases_are = record {
  integers = simp (outs-List, outs-Integer) refl;
  otherwise = simp (outs-List, outs-Ident) refl;
  no_datum = simp outs-List refl;
  names = simp (outs-List, outs-Ident) refl;
  without_expression = simp outs-List refl;
  otherwise_first = simp (outs-List, outs-Ident) refl;
  bound_otherwise = simp (outs-List, outs-Ident) refl;
  without_key = simp outs-List refl;
}

loops_are : Loops
loops_are = record {
  with_step = simp (outs-List, outs-Ident) refl;
  without_step = simp (outs-List, outs-Ident) refl;
  twice = simp (outs-List, outs-Ident) refl;
  without_test = simp outs-List refl;
  without_end = simp outs-List refl;
}

record_types_are : RecordTypes
record_types_are = record {
  with_predicate = simp (outs-List, outs-Ident) refl;
  without_predicate = simp (outs-List, outs-Ident) refl;
  without_field = simp (outs-List, outs-Ident) refl;
  field_twice = simp (outs-List, outs-Ident) refl;
  operand_twice = simp (outs-List, outs-Ident) refl;
  operand_missing = simp (outs-List, outs-Ident) refl;
  no_field = simp (outs-List, outs-Ident) refl;
}

quotations_are : Quotations
quotations_are = record {
  an_integer = simp outs-Integer refl;
  a_string = simp (outs-Text, constant_is) refl;
  a_vector = simp (outs-Vector, outs-Integer, constant_is) refl;
  a_name = simp outs-Ident refl;
  a_list = simp outs-List refl;
  nothing = simp (outs-Vector, constant_is) refl;
  empty_inside = simp (outs-Vector, outs-Integer, constant_is) refl;
  name_inside = simp (outs-Vector, outs-Integer, outs-Ident, constant_is) refl;
}

field_types_are : FieldTypes
field_types_are = record {
  named = simp (type_is, view_is, outs-Ident) refl;
  stamped = simp (type_is, view_is, outs-Ident) refl;
  of_record = simp (type_is, view_is, outs-Ident) refl;
  nested = simp (type_is, view_is, outs-List, outs-Ident) refl;
  of_vectors = simp (type_is, view_is, outs-Ident) refl;
  two = simp (type_is, view_is, outs-List) refl;
  other_word = simp (type_is, view_is, outs-List, outs-Ident) refl;
  no_name = simp (type_is, view_is, outs-Integer) refl;
}

pub all_worked : WorkedForms
all_worked = record {
  definitions = definitions_are;
  lambdas = lambdas_are;
  choices = choices_are;
  bindings = bindings_are;
  sequences = sequences_are;
  clauses = clauses_are;
  cases = cases_are;
  loops = loops_are;
  record_types = record_types_are;
  quotations = quotations_are;
  field_types = field_types_are;
}

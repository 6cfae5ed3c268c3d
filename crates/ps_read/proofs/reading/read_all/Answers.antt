use Rattle.ps_read.proofs.AnswersMeetClauses.{read, only, refused, first, small, known}
use Rattle.ps_read.proofs.reading.read_all.Goals as goal

pub returns-clause-read : goal.returns-clause-read
returns-clause-read c = read c.args.names.now c.args.file c.args.text.now c.read_text.result c.read_text.new.names c.read_text.ensures.answer c.read_text.ensures.listed

pub returns-clause-only : goal.returns-clause-only
returns-clause-only c = only c.args.names.now c.args.file c.args.text.now c.read_text.result c.read_text.ensures.answer

pub returns-clause-refused : goal.returns-clause-refused
returns-clause-refused c = refused c.args.names.now c.args.file c.args.text.now c.read_text.result c.read_text.ensures.answer

pub returns-clause-first : goal.returns-clause-first
returns-clause-first c = first c.args.names.now c.args.file c.args.text.now c.read_text.result c.read_text.ensures.answer

pub returns-clause-small : goal.returns-clause-small
returns-clause-small c = small c.args.names.now c.args.file c.args.text.now c.read_text.result c.read_text.ensures.answer

pub returns-clause-known : goal.returns-clause-known
returns-clause-known c = known c.args.names.now c.args.file c.args.text.now c.read_text.result c.read_text.new.names c.read_text.ensures.answer c.read_text.ensures.listed

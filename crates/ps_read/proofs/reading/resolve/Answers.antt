use Rattle.std.proofs.Common.{ap, sym, ◌∙◌, subst, ℕ, List}
use Rattle.ps_base.specs.Names.{Adds}
use Rattle.ps_read.specs.Lexical.{resolved, noted}
use Rattle.ps_read.proofs.AddedNamesAreNumbered.{named, quote_named}
use Rattle.ps_read.proofs.reading.resolve.Goals as goal

pub returns-in_ok-name-in-Named-clause-value : goal.returns-in_ok-name-in-Named-clause-value
returns-in_ok-name-in-Named-clause-value c =
    let adds = subst (λ (t : List ℕ). Adds c.args.names.now c.add.new.self t c.in_ok-name-in-Named.name.0) c.as_slice.ensures c.in_ok-name-in-Named.ensures.ok in
    let r = named c.args.names.now c.add.new.self c.in_ok-name-in-Named.name c.in-Named.len c.in-Named.text adds c.in_ok-name-in-Named.ensures.distinct in
    r.0 ∙ sym (ap (resolved c.args.names.now) c.in-Named.is)

pub returns-in_ok-name-in-Named-clause-noted : goal.returns-in_ok-name-in-Named-clause-noted
returns-in_ok-name-in-Named-clause-noted c =
    let adds = subst (λ (t : List ℕ). Adds c.args.names.now c.add.new.self t c.in_ok-name-in-Named.name.0) c.as_slice.ensures c.in_ok-name-in-Named.ensures.ok in
    let r = named c.args.names.now c.add.new.self c.in_ok-name-in-Named.name c.in-Named.len c.in-Named.text adds c.in_ok-name-in-Named.ensures.distinct in
    r.1 ∙ sym (ap (noted c.args.names.now) c.in-Named.is)

pub returns-in_ok-name-in-Quoted-clause-value : goal.returns-in_ok-name-in-Quoted-clause-value
returns-in_ok-name-in-Quoted-clause-value c =
    let r = quote_named c.args.names.now c.add-in-Quoted.new.self c.in_ok-name-in-Quoted.name c.in_ok-name-in-Quoted.ensures.ok c.in_ok-name-in-Quoted.ensures.distinct in
    r.0 ∙ sym (ap (resolved c.args.names.now) c.in-Quoted.is)

pub returns-in_ok-name-in-Quoted-clause-noted : goal.returns-in_ok-name-in-Quoted-clause-noted
returns-in_ok-name-in-Quoted-clause-noted c =
    let r = quote_named c.args.names.now c.add-in-Quoted.new.self c.in_ok-name-in-Quoted.name c.in_ok-name-in-Quoted.ensures.ok c.in_ok-name-in-Quoted.ensures.distinct in
    r.1 ∙ sym (ap (noted c.args.names.now) c.in-Quoted.is)

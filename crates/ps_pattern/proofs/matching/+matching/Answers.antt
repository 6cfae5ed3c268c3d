use Rattle.std.proofs.Common.{rules, sym, Some}
use Rattle.std.specs.Option.{option_map}
use Rattle.ps_pattern.specs.Matching.{Literals, matched, literal_of, both}
use Rattle.ps_pattern.proofs.Lists.{all_kept, all_none, all_short, collect_kept, collect_none, got}
use Rattle.ps_pattern.proofs.Rows.{list_case, vector_case, answer, list_each_path, vector_each_path, dotted_path}
use Rattle.ps_pattern.proofs.matching.+matching.Goals as goal

pub match_all-returns-in-None : goal.match_all-returns-in-None
match_all-returns-in-None g t c =
    let same : Literals = literal_of (g.S.Scope.rules_of c.args.scope.now) (g.S.Scope.use_of c.args.scope.now) in
    sym (all_short (matched same) c.args.ps.now c.args.fs.now c.loop-i.i c.index-ps-i.result (got c.args.ps.now c.loop-i.i c.index-ps-i.result c.loop-i-test.true c.index-ps-i.is) (sym c.in-None.ensures))

pub match_all-returns-in-None-2 : goal.match_all-returns-in-None-2
match_all-returns-in-None-2 g t c =
    let same : Literals = literal_of (g.S.Scope.rules_of c.args.scope.now) (g.S.Scope.use_of c.args.scope.now) in
    sym (all_none (matched same) c.args.ps.now c.args.fs.now c.loop-i.i c.index-ps-i.result c.in-Some.f.now (got c.args.ps.now c.loop-i.i c.index-ps-i.result c.loop-i-test.true c.index-ps-i.is) (sym c.in-Some.ensures) (search rules))

pub match_all-loop-i-preserved : goal.match_all-loop-i-preserved
match_all-loop-i-preserved g t c =
    let same : Literals = literal_of (g.S.Scope.rules_of c.args.scope.now) (g.S.Scope.use_of c.args.scope.now) in
    all_kept (matched same) c.args.ps.now c.args.fs.now c.loop-i.i c.index-ps-i.result c.in-Some.f.now c.loop-i.binds c.in-Some-2.more c.append.new.self (got c.args.ps.now c.loop-i.i c.index-ps-i.result c.loop-i-test.true c.index-ps-i.is) (sym c.in-Some.ensures) c.loop-i.invariant (search rules) (search rules)

pub match_rows-returns-in-None : goal.match_rows-returns-in-None
match_rows-returns-in-None g t c =
    let same : Literals = literal_of (g.S.Scope.rules_of c.args.scope.now) (g.S.Scope.use_of c.args.scope.now) in
    sym (collect_none (matched same c.args.p.now) c.args.fs.now c.loop-f.f-index c.f-item.result (got c.args.fs.now c.loop-f.f-index c.f-item.result c.loop-f-test.true c.f-item.is) (search rules))

pub match_rows-loop-f-preserved : goal.match_rows-loop-f-preserved
match_rows-loop-f-preserved g t c =
    let same : Literals = literal_of (g.S.Scope.rules_of c.args.scope.now) (g.S.Scope.use_of c.args.scope.now) in
    collect_kept (matched same c.args.p.now) c.args.fs.now c.loop-f.f-index c.f-item.result c.loop-f.rows.items c.in-Some.row c.push.new.self.items (got c.args.fs.now c.loop-f.f-index c.f-item.result c.loop-f-test.true c.f-item.is) c.loop-f.invariant (search rules) c.in_ok-push-in-Some.ensures.items

pub matches-returns-in-Some : goal.matches-returns-in-Some
matches-returns-in-Some g t c =
    let same : Literals = literal_of (g.S.Scope.rules_of c.args.scope.now) (g.S.Scope.use_of c.args.scope.now) in
    list_case same c.args.f.now c.args.p.now c.in-List.ps c.as_slice.result.now c.in-Some.fs.now c.match_exactly.result c.in-List.is c.as_slice.ensures c.in-Some.ensures c.match_exactly.ensures

pub matches-returns-in_ok-bounds_of-in-Some-2 : goal.matches-returns-in_ok-bounds_of-in-Some-2
matches-returns-in_ok-bounds_of-in-Some-2 g t c =
    let same : Literals = literal_of (g.S.Scope.rules_of c.args.scope.now) (g.S.Scope.use_of c.args.scope.now) in
    answer c.join.result (both (Some c.front.inside.items.items) c.in_ok-bounds_of-in-Some-2.field-0) (matched same c.args.p.now c.args.f.now) c.join.ensures (list_each_path same c.args.f.now c.args.p.now c.in-ListEach.ps c.in-ListEach.p c.in-ListEach.width c.in-Some-list_parts.fs.now c.front.inside.items.items c.in_ok-bounds_of-in-Some-2.field-0 (option_map (λ v. v.items) c.in_ok-rows-in-Some-2.rows) c.in-ListEach.is c.in-Some-list_parts.ensures (search rules) (search rules) c.in_ok-bounds_of-in-Some-2.ensures)

pub matches-returns-in_ok-matches-in-Some-3 : goal.matches-returns-in_ok-matches-in-Some-3
matches-returns-in_ok-matches-in-Some-3 g t c =
    let same : Literals = literal_of (g.S.Scope.rules_of c.args.scope.now) (g.S.Scope.use_of c.args.scope.now) in
    answer c.join-in-Some-3.result (both (Some c.front-in-Some-3.inside.items.items) c.in_ok-matches-in-Some-3.field-0) (matched same c.args.p.now c.args.f.now) c.join-in-Some-3.ensures (dotted_path same c.args.f.now c.args.p.now c.in-Dotted.ps c.in-Dotted.p c.in-Some-chain_parts.fs.now c.front-in-Some-3.inside.items.items c.in_ok-matches-in-Some-3.field-0 c.in_ok-rest-in-Some-3.rest c.in-Dotted.is c.in-Some-chain_parts.ensures (search rules) (search rules) (search rules))

pub matches-returns-in-Some-vector_parts : goal.matches-returns-in-Some-vector_parts
matches-returns-in-Some-vector_parts g t c =
    let same : Literals = literal_of (g.S.Scope.rules_of c.args.scope.now) (g.S.Scope.use_of c.args.scope.now) in
    vector_case same c.args.f.now c.args.p.now c.in-Vector.ps c.as_slice-in-Some-vector_parts.result.now c.in-Some-vector_parts.fs.now c.match_exactly-in-Some-vector_parts.result c.in-Vector.is c.as_slice-in-Some-vector_parts.ensures c.in-Some-vector_parts.ensures c.match_exactly-in-Some-vector_parts.ensures

pub matches-returns-in_ok-bounds_of-in-Some-4 : goal.matches-returns-in_ok-bounds_of-in-Some-4
matches-returns-in_ok-bounds_of-in-Some-4 g t c =
    let same : Literals = literal_of (g.S.Scope.rules_of c.args.scope.now) (g.S.Scope.use_of c.args.scope.now) in
    answer c.join-in-Some-4.result (both (Some c.front-in-Some-4.inside.items.items) c.in_ok-bounds_of-in-Some-4.field-0) (matched same c.args.p.now c.args.f.now) c.join-in-Some-4.ensures (vector_each_path same c.args.f.now c.args.p.now c.in-VectorEach.ps c.in-VectorEach.p c.in-VectorEach.width c.in-Some-vector_parts-2.fs.now c.front-in-Some-4.inside.items.items c.in_ok-bounds_of-in-Some-4.field-0 (option_map (λ v. v.items) c.in_ok-rows-in-Some-4.rows) c.in-VectorEach.is c.in-Some-vector_parts-2.ensures (search rules) (search rules) c.in_ok-bounds_of-in-Some-4.ensures)

use Rattle.std.proofs.Common.{ℕ, length-take, sym, ap, ◌∙◌, arith}
use Rattle.hit_script.specs.Cutting.{Counted, Cutting, cut_by_newline}
use Rattle.hit_script.proofs.CutLaws.{cutting-open, cutting-found, count-counted_on, no_newline_found, newline_found}
use Rattle.hit_script.proofs.cutter.LineCutter.take_piece.Goals as goal

-- A piece without a newline is counted whole.

pub returns-in_default-clause-taken : goal.returns-in_default-clause-taken
returns-in_default-clause-taken c =
    let none = no_newline_found c.args.piece.now (λ k below. c.in_default.ensures k (omega arith) below) in
    sym (ap (λ (x : Cutting). x.taken) (cutting-open c.args.piece.now c.args.self.now none c.count_all.ensures.kept))

pub returns-in_default-clause-cut : goal.returns-in_default-clause-cut
returns-in_default-clause-cut c =
    let none = no_newline_found c.args.piece.now (λ k below. c.in_default.ensures k (omega arith) below) in
    sym (ap (λ (x : Cutting). x.cut) (cutting-open c.args.piece.now c.args.self.now none c.count_all.ensures.kept))

pub returns-in_default-clause-counted : goal.returns-in_default-clause-counted
returns-in_default-clause-counted c =
    let none = no_newline_found c.args.piece.now (λ k below. c.in_default.ensures k (omega arith) below) in
    c.count_all.ensures.counted ∙ sym (ap (λ (x : Cutting). x.behind) (cutting-open c.args.piece.now c.args.self.now none c.count_all.ensures.kept))

-- Of any other the bytes before the first newline are counted.

pub take-requires : goal.take-requires
take-requires c =
    let counts = ap (λ (x : Counted). x.count) c.count_all-2.ensures.counted ∙ count-counted_on _ _ in
    omega (arith, counts, c.in-Some.ensures.0.high, c.requires, length-take {A = ℕ})

pub returns-clause-taken : goal.returns-clause-taken
returns-clause-taken c =
    let first = c.in-Some.ensures in
    let found = newline_found c.args.piece.now c.in-Some.newline first.0.high (λ j below. first.0.before j (omega arith) below) first.1 in
    sym (ap (λ (x : Cutting). x.taken) (cutting-found c.args.piece.now c.in-Some.newline c.args.self.now found first.0.high c.count_all-2.ensures.kept))

pub returns-clause-cut : goal.returns-clause-cut
returns-clause-cut c =
    let first = c.in-Some.ensures in
    let found = newline_found c.args.piece.now c.in-Some.newline first.0.high (λ j below. first.0.before j (omega arith) below) first.1 in
    c.take.ensures.cut ∙ ap cut_by_newline c.count_all-2.ensures.counted ∙ sym (ap (λ (x : Cutting). x.cut) (cutting-found c.args.piece.now c.in-Some.newline c.args.self.now found first.0.high c.count_all-2.ensures.kept))

pub returns-clause-counted : goal.returns-clause-counted
returns-clause-counted c =
    let first = c.in-Some.ensures in
    let found = newline_found c.args.piece.now c.in-Some.newline first.0.high (λ j below. first.0.before j (omega arith) below) first.1 in
    c.take.ensures.counted ∙ c.count_all-2.ensures.counted ∙ sym (ap (λ (x : Cutting). x.behind) (cutting-found c.args.piece.now c.in-Some.newline c.args.self.now found first.0.high c.count_all-2.ensures.kept))

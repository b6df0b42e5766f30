use Rattle.std.proofs.Common.{◌≤◌, ◌<◌, ◌∷◌, [], length, length-append, take, get_or, refl, ◌∙◌, arith}
use Rattle.std.proofs.lemmas.List.{take_all, take_more}
use Rattle.hit_script.proofs.Logs.{grows_both, grows_by, grows_same, logs_both, logs_same}
use Rattle.hit_script.proofs.TurnLaws.{has_entries-more, alive_more, alive_none}
use Rattle.hit_script.proofs.pointing.living.Goals as goal

pub loop-id-preserved : goal.loop-id-preserved
loop-id-preserved g c =
    let chain = c.args.chain.now in
    let k = c.loop-id.id-index in
    let id = get_or chain k 0 in
    let kept = c.loop-id.invariant in
    let within : k < length chain = omega (arith, c.loop-id-test.true, c.loop-id.auto.id-index-end) in
    let more = take_more chain k 0 within in
    rw (c.in_ok-push.ensures.items, more) record {
      count = omega (arith, kept.count, length-append c.loop-id.alive.items (c.has-is_there.result ∷ []), length-append (take k chain) (id ∷ []));
      alive = alive_more (g.D.Desk.page c.args.desk.now) (take k chain) c.loop-id.alive.items id c.has-is_there.result kept.alive (rw kept.same at c.has-is_there.ensures.is);
      same = c.has-is_there.ensures.same ∙ kept.same;
      same_places = c.has-is_there.ensures.same_places ∙ kept.same_places;
      grows = grows_both kept.grows (grows_by c.has-is_there.ensures.logged);
      logged = rw (has_entries-more (take k chain) c.loop-id.alive.items id c.has-is_there.result kept.count) (logs_both kept.logged c.has-is_there.ensures.logged);
    }

pub loop-id-init : goal.loop-id-init
loop-id-init g c =
    rw c.new-alive.ensures.items (record {
      count = refl;
      alive = alive_none (g.D.Desk.page c.args.desk.now);
      same = refl;
      same_places = refl;
      grows = grows_same _;
      logged = logs_same _;
    })

pub returns-in_err-push-clause-same : goal.returns-in_err-push-clause-same
returns-in_err-push-clause-same g c = c.has-is_there.ensures.same ∙ c.loop-id.invariant.same

pub returns-in_err-push-clause-same_places : goal.returns-in_err-push-clause-same_places
returns-in_err-push-clause-same_places g c = c.has-is_there.ensures.same_places ∙ c.loop-id.invariant.same_places

pub returns-in_err-push-clause-grows : goal.returns-in_err-push-clause-grows
returns-in_err-push-clause-grows g c = grows_both c.loop-id.invariant.grows (grows_by c.has-is_there.ensures.logged)

pub returns-clause-count : goal.returns-clause-count
returns-clause-count g c =
    let over : length c.args.chain.now ≤ c.loop-id.id-index = omega (arith, c.loop-id-test.false, c.loop-id.auto.id-index-end) in
    rw (take_all c.loop-id.id-index c.args.chain.now over) at c.loop-id.invariant.count

pub returns-clause-alive : goal.returns-clause-alive
returns-clause-alive g c =
    let over : length c.args.chain.now ≤ c.loop-id.id-index = omega (arith, c.loop-id-test.false, c.loop-id.auto.id-index-end) in
    rw (take_all c.loop-id.id-index c.args.chain.now over) at c.loop-id.invariant.alive

pub returns-clause-same : goal.returns-clause-same
returns-clause-same g c = c.loop-id.invariant.same

pub returns-clause-same_places : goal.returns-clause-same_places
returns-clause-same_places g c = c.loop-id.invariant.same_places

pub returns-clause-grows : goal.returns-clause-grows
returns-clause-grows g c = c.loop-id.invariant.grows

pub returns-clause-logged : goal.returns-clause-logged
returns-clause-logged g c =
    let over : length c.args.chain.now ≤ c.loop-id.id-index = omega (arith, c.loop-id-test.false, c.loop-id.auto.id-index-end) in
    rw (take_all c.loop-id.id-index c.args.chain.now over) at c.loop-id.invariant.logged

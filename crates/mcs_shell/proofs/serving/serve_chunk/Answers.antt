use Rattle.std.proofs.Common.{rules, refl, ◌≡◌, ◌++◌, ◌∷◌}
use Rattle.mcs_shell.specs.LineFeeds.{HasNoFeed}
use Rattle.mcs_shell.proofs.Exchanges.{serves_chunk_if_line_halts, no_feed_in_unfinished_line, serves_chunk_if_rest_has_no_feed, served_part_after_line, served_part_at_start}
use Rattle.mcs_shell.proofs.serving.serve_chunk.Goals as goal

pub loop-front-init : goal.loop-front-init
loop-front-init g c = record { served = served_part_at_start _ _ _ c.requires; counted = refl }

pub returns-in-Err-clause-fed : goal.returns-in-Err-clause-fed
returns-in-Err-clause-fed g c =
    let split_at_feed : HasNoFeed c.in-Some.front.now × (c.loop-front.rest.now ≡ c.in-Some.front.now ++ 10 ∷ c.in-Some.back.now) = c.in-Some.ensures in
    serves_chunk_if_line_halts c.in-Err.end _ _ _ _ _ _ _ _ _ _ _ c.loop-front.invariant.served split_at_feed c.append_to_line.ensures c.in-Err.ensures.fed

pub loop-front-preserved : goal.loop-front-preserved
loop-front-preserved g c =
    let split_at_feed : HasNoFeed c.in-Some.front.now × (c.loop-front.rest.now ≡ c.in-Some.front.now ++ 10 ∷ c.in-Some.back.now) = c.in-Some.ensures in
    record {
      served = served_part_after_line _ _ _ _ _ _ _ _ _ _ _ c.loop-front.invariant.served split_at_feed c.append_to_line.ensures c.in-Ok.ensures.fed;
      counted = search rules;
    }

pub end_line-requires : goal.end_line-requires
end_line-requires g c = no_feed_in_unfinished_line _ _ _ _ _ _ _ _ c.loop-front.invariant.served (c.in-Some.ensures.0) c.append_to_line.ensures

pub returns-clause-fed : goal.returns-clause-fed
returns-clause-fed g c = serves_chunk_if_rest_has_no_feed _ _ _ _ _ _ _ c.loop-front.invariant.served c.in_default.ensures c.append_to_line-2.ensures

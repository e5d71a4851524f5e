use Rattle.std.proofs.Common.{rules, ◌≡◌, ◌∷◌, length}
use Rattle.eprime_eval.proofs.MemberLists.{only_run}
use Rattle.eprime_eval.proofs.members.one_run.Goals as goal

pub returns-then-rest-eq0 : goal.returns-then-rest-eq0
returns-then-rest-eq0 c =
    let first : c.args.runs.now ≡ c.in-Some.run'.now ∷ c.in-Some.rest.now = first_of (search rules, cc) in
    let alone : length c.in-Some.rest.now ≡ 0 = first_of (search rules, cc) in
    only_run c.args.runs.now c.in-Some.rest.now c.in-Some.run'.now c.bounded.result first alone c.bounded.ensures

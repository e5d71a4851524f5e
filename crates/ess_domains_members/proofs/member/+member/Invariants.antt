use Rattle.std.proofs.Common.{◌≡◌, map, drop}
use Rattle.std.specs.List.{list_all}
use Rattle.ess_semantics.specs.Values.{from_of, to_of, of_list}
use Rattle.ess_semantics.specs.Membership.{member, member_of_each, tuple_member}
use Rattle.ess_core.specs.ValueViews.{pure_val, pure_vals, pure_field_val, pure_pair}
use Rattle.ess_eval_domains.specs.ClosedViews.{pure_closed, pure_closeds, pure_field_closed, domains_of}
use Rattle.ess_domains_members.proofs.member.+member.Given as goal

abbrev pub invariant-are_members-loop-val : goal.invariant-are_members-loop-val
invariant-are_members-loop-val l =
    list_all (member (pure_closed l.domain)) (map pure_val l.vals) ≡ list_all (member (pure_closed l.domain)) (map pure_val (drop l.val-index l.vals))

abbrev pub invariant-each_member-loop-i : goal.invariant-each_member-loop-i
invariant-each_member-loop-i l =
    member_of_each (pure_closeds l.parts) (pure_vals l.vals) ≡ member_of_each (pure_closeds (drop l.i l.parts)) (pure_vals (drop l.i l.vals))

abbrev pub invariant-each_field_member-loop-i : goal.invariant-each_field_member-loop-i
invariant-each_field_member-loop-i l =
    member_of_each (domains_of (map (λ f. f.1) (map pure_field_closed l.fields))) (of_list (map (λ f. f.1) (map pure_field_val l.vals)))
    ≡ member_of_each (domains_of (map (λ f. f.1) (map pure_field_closed (drop l.i l.fields)))) (of_list (map (λ f. f.1) (map pure_field_val (drop l.i l.vals))))

abbrev pub invariant-arguments_are_members-loop-pair : goal.invariant-arguments_are_members-loop-pair
invariant-arguments_are_members-loop-pair l =
    list_all (λ p. member (pure_closed l.domain) (from_of p)) (map pure_pair l.pairs)
    ≡ list_all (λ p. member (pure_closed l.domain) (from_of p)) (map pure_pair (drop l.pair-index l.pairs))

abbrev pub invariant-values_are_members-loop-pair : goal.invariant-values_are_members-loop-pair
invariant-values_are_members-loop-pair l =
    list_all (λ p. member (pure_closed l.domain) (to_of p)) (map pure_pair l.pairs)
    ≡ list_all (λ p. member (pure_closed l.domain) (to_of p)) (map pure_pair (drop l.pair-index l.pairs))

abbrev pub invariant-are_tuples-loop-tuple : goal.invariant-are_tuples-loop-tuple
invariant-are_tuples-loop-tuple l =
    list_all (tuple_member (pure_closeds l.parts)) (map pure_val l.tuples)
    ≡ list_all (tuple_member (pure_closeds l.parts)) (map pure_val (drop l.tuple-index l.tuples))

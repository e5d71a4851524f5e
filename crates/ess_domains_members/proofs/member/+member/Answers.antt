-- The form of each kind and the members of its parts tell membership.
use Rattle.std.proofs.Common.{◌≡◌, sym, ap, ◌∙◌, true, false, map, Some, None, option_map}
use Rattle.std.specs.List.{list_all}
use Rattle.ess_semantics.specs.Values.{from_of, to_of}
use Rattle.ess_semantics.specs.Domains.{members}
use Rattle.ess_semantics.specs.Membership.{member, tuple_member}
use Rattle.ess_core.specs.ValueViews.{pure_val, pure_pair}
use Rattle.ess_eval_domains.specs.ClosedViews.{pure_closed, pure_closeds, pure_attributes}
use Rattle.ess_domains_members.specs.Forms.{set_form, mset_form, function_form, relation_form, part_members}
use Rattle.ess_domains_members.proofs.MemberForms.{set_formed, mset_formed, function_formed, function_other, function_argument, relation_formed, relation_other}
use Rattle.ess_domains_members.proofs.PartitionForms.{partition_some, partition_none}
use Rattle.ess_domains_members.proofs.member.+member.Goals as goal

pub is_member-returns-in_ok-are_members-in-Set-Set : goal.is_member-returns-in_ok-are_members-in-Set-Set
is_member-returns-in_ok-are_members-in-Set-Set t c =
    let n = c.in-Set-Set in
    let h : set_form (pure_attributes n.own) (map pure_val n.vals) ≡ true =
    cc (c.have_set_form.ensures, c.if-not-have_set_form.false, c.as_slice-in-Set-Set.ensures, c.as_slice-in-Set-Set-2.ensures) in
    let e : c.in_ok-are_members-in-Set-Set.field-0 ≡ list_all (member (pure_closed n.inner)) (map pure_val n.vals) =
    cc (c.in_ok-are_members-in-Set-Set.ensures, c.get-in-Set-Set.ensures, c.as_slice-in-Set-Set-3.ensures) in
    cc (set_formed n.own n.inner n.vals _ h e, n.is-0, n.is-1)

pub is_member-returns-in_ok-are_members-in-MSet-MSet : goal.is_member-returns-in_ok-are_members-in-MSet-MSet
is_member-returns-in_ok-are_members-in-MSet-MSet t c =
    let n = c.in-MSet-MSet in
    let h : mset_form (pure_attributes n.own) (map pure_val n.vals) ≡ true =
    cc (c.have_mset_form.ensures, c.if-not-have_mset_form.false, c.as_slice-in-MSet-MSet.ensures, c.as_slice-in-MSet-MSet-2.ensures) in
    let e : c.in_ok-are_members-in-MSet-MSet.field-0 ≡ list_all (member (pure_closed n.inner)) (map pure_val n.vals) =
    cc (c.in_ok-are_members-in-MSet-MSet.ensures, c.get-in-MSet-MSet.ensures, c.as_slice-in-MSet-MSet-3.ensures) in
    cc (mset_formed n.own n.inner n.vals _ h e, n.is-0, n.is-1)

pub is_member-returns-then-not-branch : goal.is_member-returns-then-not-branch
is_member-returns-then-not-branch t c =
    let n = c.in-Function-Function in
    let h : function_form (pure_attributes n.own) (pure_closed n.from) (pure_closed n.to) (map pure_pair n.pairs) ≡ false =
    cc (
      c.in_ok-have_function_form-in-Function-Function.ensures,
      c.if-not-branch.true,
      c.as_slice-pairs.ensures,
      c.as_slice-in-Function-Function.ensures,
      c.get-in-Function-Function.ensures,
      c.get-in-Function-Function-2.ensures,
    ) in
    cc (function_other n.own n.from n.to n.pairs h, n.is-0, n.is-1)

pub is_member-returns-then-not-branch-2 : goal.is_member-returns-then-not-branch-2
is_member-returns-then-not-branch-2 t c =
    let n = c.in-Function-Function in
    let d : c.get-in-Function-Function-3.result.now ≡ n.from = cc (c.get-in-Function-Function-3.ensures) in
    let l : c.as_slice-pairs.result.now ≡ n.pairs = cc (c.as_slice-pairs.ensures) in
    let h : list_all (λ p. member (pure_closed n.from) (from_of p)) (map pure_pair n.pairs) ≡ false =
    ap (λ x. list_all (λ p. member (pure_closed x) (from_of p)) (map pure_pair n.pairs)) (sym d)
    ∙ ap (λ x. list_all (λ p. member (pure_closed c.get-in-Function-Function-3.result.now) (from_of p)) (map pure_pair x)) (sym l)
    ∙ sym c.in_ok-arguments_are_members-in-Function-Function.ensures ∙ c.if-not-branch-2.true in
    cc (function_argument n.own n.from n.to n.pairs h, n.is-0, n.is-1)

pub is_member-returns-in_ok-values_are_members-in-Function-Function : goal.is_member-returns-in_ok-values_are_members-in-Function-Function
is_member-returns-in_ok-values_are_members-in-Function-Function t c =
    let n = c.in-Function-Function in
    let h : function_form (pure_attributes n.own) (pure_closed n.from) (pure_closed n.to) (map pure_pair n.pairs) ≡ true =
    cc (
      c.in_ok-have_function_form-in-Function-Function.ensures,
      c.if-not-branch.false,
      c.as_slice-pairs.ensures,
      c.as_slice-in-Function-Function.ensures,
      c.get-in-Function-Function.ensures,
      c.get-in-Function-Function-2.ensures,
    ) in
    let d : c.get-in-Function-Function-3.result.now ≡ n.from = cc (c.get-in-Function-Function-3.ensures) in
    let k : c.get-in-Function-Function-4.result.now ≡ n.to = cc (c.get-in-Function-Function-4.ensures) in
    let l : c.as_slice-pairs.result.now ≡ n.pairs = cc (c.as_slice-pairs.ensures) in
    let g : list_all (λ p. member (pure_closed n.from) (from_of p)) (map pure_pair n.pairs) ≡ true =
    ap (λ x. list_all (λ p. member (pure_closed x) (from_of p)) (map pure_pair n.pairs)) (sym d)
    ∙ ap (λ x. list_all (λ p. member (pure_closed c.get-in-Function-Function-3.result.now) (from_of p)) (map pure_pair x)) (sym l)
    ∙ sym c.in_ok-arguments_are_members-in-Function-Function.ensures ∙ c.if-not-branch-2.false in
    let e : c.in_ok-values_are_members-in-Function-Function.field-0 ≡ list_all (λ p. member (pure_closed n.to) (to_of p)) (map pure_pair n.pairs) =
    c.in_ok-values_are_members-in-Function-Function.ensures
    ∙ ap (λ x. list_all (λ p. member (pure_closed c.get-in-Function-Function-4.result.now) (to_of p)) (map pure_pair x)) l
    ∙ ap (λ x. list_all (λ p. member (pure_closed x) (to_of p)) (map pure_pair n.pairs)) k in
    cc (function_formed n.own n.from n.to n.pairs _ h g e, n.is-0, n.is-1)

pub is_member-returns-then-not-branch-3 : goal.is_member-returns-then-not-branch-3
is_member-returns-then-not-branch-3 t c =
    let n = c.in-Relation-Relation in
    let h : relation_form (pure_attributes n.own) (pure_closeds n.parts) (map pure_val n.tuples) ≡ false =
    cc (
      c.in_ok-have_relation_form-in-Relation-Relation.ensures,
      c.if-not-branch-3.true,
      c.as_slice-in-Relation-Relation.ensures,
      c.as_slice-in-Relation-Relation-2.ensures,
      c.as_slice-in-Relation-Relation-3.ensures,
    ) in
    cc (relation_other n.own n.parts n.tuples h, n.is-0, n.is-1)

pub is_member-returns-in_ok-are_tuples-in-Relation-Relation : goal.is_member-returns-in_ok-are_tuples-in-Relation-Relation
is_member-returns-in_ok-are_tuples-in-Relation-Relation t c =
    let n = c.in-Relation-Relation in
    let h : relation_form (pure_attributes n.own) (pure_closeds n.parts) (map pure_val n.tuples) ≡ true =
    cc (
      c.in_ok-have_relation_form-in-Relation-Relation.ensures,
      c.if-not-branch-3.false,
      c.as_slice-in-Relation-Relation.ensures,
      c.as_slice-in-Relation-Relation-2.ensures,
      c.as_slice-in-Relation-Relation-3.ensures,
    ) in
    let e : c.in_ok-are_tuples-in-Relation-Relation.field-0 ≡ list_all (tuple_member (pure_closeds n.parts)) (map pure_val n.tuples) =
    cc (c.in_ok-are_tuples-in-Relation-Relation.ensures, c.as_slice-in-Relation-Relation-4.ensures, c.as_slice-in-Relation-Relation-5.ensures) in
    cc (relation_formed n.own n.parts n.tuples _ h e, n.is-0, n.is-1)

pub is_member-returns-in_ok-are_members-in-Some-2 : goal.is_member-returns-in_ok-are_members-in-Some-2
is_member-returns-in_ok-are_members-in-Some-2 t c =
    let n = c.in-Partition-Partition in
    let i : option_map (map pure_val) c.in_ok-all-in-Partition-Partition.field-0 ≡ Some (map pure_val c.in-Some-2.all) =
    ap (option_map (map pure_val)) c.in-Some-2.is in
    let s : Some (map pure_val c.in-Some-2.all) ≡ part_members (pure_attributes n.own) (members (pure_closed n.inner)) (map pure_val n.parts) =
    cc (
      i,
      c.in_ok-all-in-Partition-Partition.ensures,
      c.as_slice-in-Partition-Partition.ensures,
      c.get-in-Partition-Partition.ensures,
      c.as_slice-in-Partition-Partition-2.ensures,
    ) in
    let e : c.in_ok-are_members-in-Some-2.field-0 ≡ list_all (member (pure_closed n.inner)) (map pure_val c.in-Some-2.all) =
    cc (c.in_ok-are_members-in-Some-2.ensures, c.get-in-Some-2.ensures, c.as_slice-in-Some-2.ensures) in
    cc (partition_some n.own n.inner n.parts c.in-Some-2.all _ s e, n.is-0, n.is-1)

pub is_member-returns-in-None-2 : goal.is_member-returns-in-None-2
is_member-returns-in-None-2 t c =
    let n = c.in-Partition-Partition in
    let i : option_map (map pure_val) c.in_ok-all-in-Partition-Partition.field-0 ≡ None = ap (option_map (map pure_val)) c.in-None-2.is in
    let s : None ≡ part_members (pure_attributes n.own) (members (pure_closed n.inner)) (map pure_val n.parts) =
    cc (
      i,
      c.in_ok-all-in-Partition-Partition.ensures,
      c.as_slice-in-Partition-Partition.ensures,
      c.get-in-Partition-Partition.ensures,
      c.as_slice-in-Partition-Partition-2.ensures,
    ) in
    cc (partition_none n.own n.inner n.parts s, n.is-0, n.is-1)

use Rattle.ess_types_judging.proofs.DomainLists.{relation_there}
use Rattle.ess_types_judging.proofs.finiteness.listed_are_enumerable.Goals as goal

pub returns-in-Relation : goal.returns-in-Relation
returns-in-Relation c =
    let n = c.in-Relation in
    cc (
      relation_there n.attrs n.doms,
      c.as_slice-in-Relation.ensures,
      c.as_slice-in-Relation-2.ensures,
      c.relation_is_listable.ensures,
      n.is,
    )

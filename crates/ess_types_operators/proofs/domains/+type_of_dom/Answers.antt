use Rattle.ess_types_operators.proofs.DomainTypes.{all_types, record_types}
use Rattle.ess_types_operators.proofs.domains.+type_of_dom.Goals as goal

pub types_of_doms-returns : goal.types_of_doms-returns
types_of_doms-returns t c = all_types c.args.doms.now _ c.in_ok-each_type.ensures

pub types_of_fields-returns : goal.types_of_fields-returns
types_of_fields-returns t c = record_types c.args.fields.now _ c.in_ok-each_field.ensures

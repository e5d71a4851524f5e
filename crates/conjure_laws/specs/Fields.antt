-- Domains whose records have a name for each component, as the grammar reads them, and names whose representations fit theirs.
use Rattle.std.specs.Prelude.{◌≡◌, true, List, [], ◌∷◌, length, Some}
use Rattle.ess_semantics.specs.Values.{Text}
use Rattle.ess_semantics.specs.Domains.{Domain}
use Rattle.ess_semantics.specs.Contexts.{Each}
use Rattle.ess_semantics.specs.Meaning.{domain_of}
use Rattle.ess_semantics.specs.Assignments.{Assignment}
use Rattle.ess_semantics.specs.Parameters.{Param}
use Rattle.ess_semantics.specs.Plans.{Options, chosen_reprs}
use Rattle.ess_semantics.specs.DomainJudgements.{needs_known_slots}
use Rattle.ess_repr_laws.specs.WellFormed.{Well}
use Rattle.ess_repr_laws.specs.TypedDomains.{Typed}
use Rattle.ess_repr_laws.specs.Laws.{Fitting}
use Rattle.conjure_laws.specs.Premises.{here}
use Rattle.ess_semantics.specs.Trees.{Mark, flag, valued, Stm, given, let_dom, find, Dom, Doms, tuple_dom, record_dom, matrix_dom, set_dom, mset_dom, function_dom, relation_dom, partition_dom, no_doms, more_doms}
use Rattle.ess_semantics.specs.Kinds.{dom_list}

abbrev mutual
  -- Each record in the domain has as many field names as components.
  pub HasFields : Dom → Type 0
  HasFields (tuple_dom ds) = AllHaveFields ds
  HasFields (record_dom fs ds) = (length fs ≡ length (dom_list ds)) × AllHaveFields ds
  HasFields (matrix_dom is d) = HasFields d
  HasFields (set_dom ms es d) = HasFields d
  HasFields (mset_dom ms es d) = HasFields d
  HasFields (function_dom ms es d c) = HasFields d × HasFields c
  HasFields (relation_dom ms es ds) = AllHaveFields ds
  HasFields (partition_dom ms es d) = HasFields d
  HasFields d = Unit {0}

  -- So has each of these domains.
  pub AllHaveFields : Doms → Type 0
  AllHaveFields no_doms = Unit {0}
  AllHaveFields (more_doms d ds) = HasFields d × AllHaveFields ds

-- The domain that a statement is with, as it is written, has its fields.
abbrev pub HasItsFields : Stm → Type 0
HasItsFields (given x d) = HasFields d
HasItsFields (find x d) = HasFields d
HasItsFields (let_dom x d) = HasFields d
HasItsFields s = Unit {0}

-- Each attribute stands with a number.
abbrev pub AllValued : List Mark → Type 0
AllValued [] = Unit {0}
AllValued (valued k ∷ ms) = AllValued ms
AllValued (flag k ∷ ms) = ⊥

abbrev mutual
  -- No relation in the domain has an attribute without a number.
  pub PlainMarks : Dom → Type 0
  PlainMarks (tuple_dom ds) = AllPlainMarks ds
  PlainMarks (record_dom fs ds) = AllPlainMarks ds
  PlainMarks (matrix_dom is d) = PlainMarks d
  PlainMarks (set_dom ms es d) = PlainMarks d
  PlainMarks (mset_dom ms es d) = PlainMarks d
  PlainMarks (function_dom ms es d c) = PlainMarks d × PlainMarks c
  PlainMarks (relation_dom ms es ds) = AllValued ms × AllPlainMarks ds
  PlainMarks (partition_dom ms es d) = PlainMarks d
  PlainMarks d = Unit {0}

  -- So has none in these domains.
  pub AllPlainMarks : Doms → Type 0
  AllPlainMarks no_doms = Unit {0}
  AllPlainMarks (more_doms d ds) = PlainMarks d × AllPlainMarks ds

-- ---- a given or find with its representations

-- Each representation of a given or find fits its domain, where each record has its fields. What the domain stands for is
-- typed: so it is where no relation has an attribute without a number (positions_stand_for_types).
pub record NameFits (S : List Stm) (o : Options) (x : Text) (d : Dom) : Type 0 where
  pub fitting : Each (chosen_reprs o x d) (λ r. Fitting r d)
  pub fields : HasFields d
  pub typed : (p : Assignment) (e : Domain) → Param S p → domain_of d (here S p) ≡ Some e → Typed e

-- What the judgements on domains (judged_domains_are_well) and the grammar (fields) say of the domain of a given or find, and
-- that it is typed.
pub record WellKept (S : List Stm) (d : Dom) : Type 0 where
  pub well : Well d
  pub known : needs_known_slots d ≡ true
  pub fields : HasFields d
  pub typed : (p : Assignment) (e : Domain) → Param S p → domain_of d (here S p) ≡ Some e → Typed e

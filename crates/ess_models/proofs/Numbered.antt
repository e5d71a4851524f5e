-- Each attribute of a domain's tree has its number: so has each of the domain that the tree stands for.
use Rattle.std.proofs.Common.{◌≡◌, refl, sym, ap, ◌∙◌, subst, true, List, [], ◌∷◌, map, Option, Some, None, option_map}
use Rattle.ess_semantics.specs.declared.words.Key.{Key}
use Rattle.ess_semantics.specs.Values.{Text}
use Rattle.ess_semantics.specs.Lists.{append_all}
use Rattle.ess_semantics.specs.Kinds.{doms_of}
use Rattle.ess_semantics.specs.Contexts.{Each}
use Rattle.ess_semantics.specs.Trees as pure
use Rattle.ess_semantics.specs.Trees.{Ends, Mark}
use Rattle.ess_semantics.specs.Plans.{domain_of_stm}
use Rattle.ess_core.specs.TreeViews.{With, words_of, within, Item, exs_of, field_values, attribute, dom_step, field_dom_step, range_step, attr_step, ex_step, step_step, field_ex_step, pair_ex_step, gen_step, view_step, pure_dom, pure_field_dom, pure_attr, pure_ex, pure_doms}
use Rattle.ess_core.specs.StatementViews.{pure_stm}
use Rattle.ess_core.specs.declared.statements.Stm.{Stm}
use Rattle.ess_core.specs.declared.statements.Stm.TheVariants.{Given, GivenEnum, LetEx, LetDom, LetEnum, LetUnnamed, Needs, Find, SuchThat, Minimise, Maximise}
use Rattle.ess_core.specs.declared.domains.Dom.{Dom, roll-Dom}
use Rattle.ess_core.specs.declared.domains.FieldDom.{FieldDom, roll-FieldDom}
use Rattle.ess_core.specs.declared.domains.Range.{Range}
use Rattle.ess_core.specs.declared.domains.Attr.{Attr, out-Attr}
use Rattle.ess_core.specs.declared.expressions.Ex.{Ex}
use Rattle.ess_core.specs.declared.expressions.Step.{Step}
use Rattle.ess_core.specs.declared.expressions.FieldEx.{FieldEx}
use Rattle.ess_core.specs.declared.expressions.PairEx.{PairEx}
use Rattle.ess_core.specs.declared.expressions.Gen.{Gen}
use Rattle.ess_core.specs.declared.expressions.View.{View}
use Rattle.ess_core.specs.declared.domains.Dom.TheOpen.{Dom-F, FieldDom-F}
use Rattle.ess_core.specs.declared.domains.Dom.TheFolds.{ind-Dom, map-Dom, fold-roll-FieldDom}
use Rattle.ess_core.proofs.DomainEquations.{pure_bool, pure_int, pure_name, pure_tuple, pure_rec, pure_matrix, pure_set, pure_mset, pure_function, pure_relation, pure_partition}
use Rattle.ess_core.proofs.PartEquations.{pure_attr_is}
use Rattle.ess_repr_declare_laws.specs.Laws.{are_numbered}
use Rattle.ess_translate_plans_laws.specs.Requests.{HasNumbers, AllHaveNumbers}

-- ---- attributes

one-attribute : (k : Key) (o : Option pure.Ex) (ms : List (With Mark)) →
    are_numbered (words_of (attribute k o ∷ ms)) (exs_of (within (attribute k o ∷ ms))) ≡ are_numbered (words_of ms) (exs_of (within ms))
one-attribute k None ms = refl
one-attribute k (Some e) ms = refl

attributes : (as' : List Attr) → are_numbered (words_of (map pure_attr as')) (exs_of (within (map pure_attr as'))) ≡ true
attributes [] = refl
attributes (a ∷ as') =
    ap (λ m. are_numbered (words_of (m ∷ map pure_attr as')) (exs_of (within (m ∷ map pure_attr as')))) (pure_attr_is a)
    ∙ one-attribute (out-Attr a).key (option_map pure_ex (out-Attr a).value) (map pure_attr as') ∙ attributes as'

-- ---- domains

abbrev Numbered : Dom → Type 0
Numbered d = HasNumbers (pure_dom d)

abbrev FieldNumbered : FieldDom → Type 0
FieldNumbered f = HasNumbers (pure_field_dom f).1

abbrev WithNumbers : Type 0
WithNumbers = (d : Dom) × Numbered d

abbrev FieldWithNumbers : Type 0
FieldWithNumbers = (f : FieldDom) × FieldNumbered f

abbrev Bare : Type 0 → Type 0
Bare A = (x : A) × Unit {0}

several : (ds : List WithNumbers) → AllHaveNumbers (pure_doms (map (λ x. x.0) ds))
several [] = tt
several (d ∷ ds) = (d.1, several ds)

fields : (fs : List FieldWithNumbers) → AllHaveNumbers (doms_of (field_values (map pure_field_dom (map (λ x. x.0) fs))))
fields [] = tt
fields (f ∷ fs) = (f.1, fields fs)

dom-layer : (y : Dom-F WithNumbers (Bare Range) (Bare Ex) (Bare Gen) (Bare Step) (Bare Attr) FieldWithNumbers (Bare FieldEx)
    (Bare PairEx) (Bare View))
    → Numbered (roll-Dom (map-Dom WithNumbers (Bare Range) (Bare Ex) (Bare Gen) (Bare Step) (Bare Attr) FieldWithNumbers (Bare FieldEx)
    (Bare PairEx) (Bare View)
    Dom Range Ex Gen Step Attr FieldDom FieldEx PairEx View
    (λ e. e.0) (λ e. e.0) (λ e. e.0) (λ e. e.0) (λ e. e.0) (λ e. e.0) (λ e. e.0) (λ e. e.0) (λ e. e.0) (λ e. e.0) y))
unfolding roll-Dom denote.Hole.Carrier.roll
dom-layer Dom-F.Bool = subst HasNumbers (sym pure_bool) tt
dom-layer (Dom-F.Int rs) = subst HasNumbers (sym (pure_int (map (λ x. x.0) rs))) tt
dom-layer (Dom-F.Dom::Name a) = subst HasNumbers (sym (pure_name a)) tt
dom-layer (Dom-F.Dom::Tuple ds) = subst HasNumbers (sym (pure_tuple (map (λ x. x.0) ds))) (several ds)
dom-layer (Dom-F.Dom::Rec fs) = subst HasNumbers (sym (pure_rec (map (λ x. x.0) fs))) (fields fs)
dom-layer (Dom-F.Dom::Matrix is d) = subst HasNumbers (sym (pure_matrix (map (λ x. x.0) is) d.0)) d.1
dom-layer (Dom-F.Dom::Set ms d) = subst HasNumbers (sym (pure_set (map (λ x. x.0) ms) d.0)) (attributes (map (λ x. x.0) ms), d.1)
dom-layer (Dom-F.Dom::MSet ms d) = subst HasNumbers (sym (pure_mset (map (λ x. x.0) ms) d.0)) (attributes (map (λ x. x.0) ms), d.1)
dom-layer (Dom-F.Dom::Function ms d e) = subst HasNumbers (sym (pure_function (map (λ x. x.0) ms) d.0 e.0)) (
  attributes (map
      (λ x. x.0) ms),
  d.1,
  e.1,
)
dom-layer (Dom-F.Dom::Relation ms ds) = subst HasNumbers (sym (pure_relation (map (λ x. x.0) ms) (map (λ x. x.0) ds))) (
  attributes (map
      (λ x. x.0) ms),
  several ds,
)
dom-layer (Dom-F.Dom::Partition ms d) = subst HasNumbers (sym (pure_partition (map (λ x. x.0) ms) d.0)) (
  attributes (map
      (λ x. x.0) ms),
  d.1,
)

field-layer : (y : FieldDom-F WithNumbers (Bare Range) (Bare Ex) (Bare Gen) (Bare Step) (Bare Attr) FieldWithNumbers (Bare FieldEx)
    (Bare PairEx) (Bare View))
    → FieldNumbered (roll-FieldDom (record { name = y.name; dom = y.dom.0 }))
field-layer y =
    subst (λ p. HasNumbers p.1)
    (sym (fold-roll-FieldDom pure.Dom (With Ends) pure.Ex Item (With pure.Step) (With Mark) (Text × pure.Dom) (Text ×
    pure.Ex) pure.Ex pure.Ex
    dom_step range_step ex_step gen_step step_step attr_step field_dom_step field_ex_step pair_ex_step view_step
    (record { name = y.name; dom = y.dom.0 })))
    y.dom.1

-- A domain's attributes have their numbers.
pub dom-numbered : (d : Dom) → HasNumbers (pure_dom d)
dom-numbered =
    ind-Dom Numbered (λ r. Unit {0}) (λ e. Unit {0}) (λ g. Unit {0}) (λ s. Unit {0}) (λ a. Unit {0}) FieldNumbered (λ f. Unit {0})
    (λ p. Unit {0}) (λ v. Unit {0})
    (λ x y is. subst (λ z. Numbered (roll-Dom z)) is (dom-layer y)) (λ x y is. tt) (λ x y is. tt) (λ x y is. tt) (λ x y is. tt)
    (λ x y is. tt)
    (λ x y is. subst (λ z. FieldNumbered (roll-FieldDom z)) is (field-layer y)) (λ x y is. tt) (λ x y is. tt) (λ x y is. tt)

-- ---- statements

-- So have those of the givens and finds.
pub stms-numbered : (ss : List Stm) → Each (append_all (map domain_of_stm (map pure_stm ss))) (λ x. HasNumbers x.1)
stms-numbered [] = tt
stms-numbered (Given a d ∷ ss) = (dom-numbered d, stms-numbered ss)
stms-numbered (Find a d ∷ ss) = (dom-numbered d, stms-numbered ss)
stms-numbered (GivenEnum a ∷ ss) = stms-numbered ss
stms-numbered (LetEx a e ∷ ss) = stms-numbered ss
stms-numbered (LetDom a d ∷ ss) = stms-numbered ss
stms-numbered (LetEnum a ns ∷ ss) = stms-numbered ss
stms-numbered (LetUnnamed a e ∷ ss) = stms-numbered ss
stms-numbered (Needs e ∷ ss) = stms-numbered ss
stms-numbered (SuchThat e ∷ ss) = stms-numbered ss
stms-numbered (Minimise e ∷ ss) = stms-numbered ss
stms-numbered (Maximise e ∷ ss) = stms-numbered ss

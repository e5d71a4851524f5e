-- Laws of every kind of representation.
use Rattle.std.specs.Prelude.{◌≡◌, true, false, List, [], option_map}
use Rattle.ess_semantics.specs.declared.words.ReprKind.{ReprKind}
use Rattle.ess_semantics.specs.Values.{Text, a_tuple, a_record, Value, Values, node, of_list, to_list, tuple}
use Rattle.ess_semantics.specs.Trees.{Repr, Reprs, repr, no_reprs, Dom}
use Rattle.ess_semantics.specs.Domains.{Domain, Domains, tuples, records, domain_list}
use Rattle.ess_semantics.specs.Membership.{member}
use Rattle.ess_semantics.specs.Tables.{Tables}
use Rattle.ess_semantics.specs.Representations.{value_of_tables}
use Rattle.ess_semantics.specs.Declarations.{declarations, axes_of}
use Rattle.ess_semantics.specs.Canonical.{tables_of_value}
use Rattle.ess_semantics.specs.OneLayer.{layer_tables, layer_value}
use Rattle.ess_semantics.specs.Tidy.{over_axes}
use Rattle.ess_semantics.specs.Meaning.{Env}
use Rattle.ess_repr_laws.specs.Channel.{Seen, SaysSame}
use Rattle.ess_repr_laws.specs.CanonicalTables.{TablesFit, is_compound}
use Rattle.ess_repr_laws.specs.Rooms.{Covered, Roomy}
use Rattle.ess_repr_layers_laws.specs.Components.{tables_of_components, values_of_components}

-- The tables with these names are those of a view of the domain under the representation: on its axes, with items in its domains.
pub record Held (env : Env) (d : Dom) (e : Domain) (r : Repr) (ns : List Text) (ts : Tables) : Type 0 where
  pub covered : Covered r e
  pub seen : Seen env d e ns ts
  pub over : over_axes [] (axes_of r e) ts ≡ true
  pub fit : TablesFit (declarations r e) ts

-- Two views of a domain: their channel says that they stand for one value. So of each domain, where tables fit. Of a view of bool over
-- a table with another number than 0 and 1 the channel doesn't say it: it counts as false, and stands for nothing.
abbrev pub ChannelsOfFittingTables : Type 0
ChannelsOfFittingTables =
    (env : Env) (d : Dom) (e : Domain) (r s : Repr) (ns ms : List Text) (ts us : Tables) → Held env d e r ns ts → Held env d e s ms us →
    SaysSame env d e r s ns ms ts us

-- One layer of every kind. Without children: the tables of a member and the value of tables are the layer's own. Of components: the
-- tables of a tuple or record are those of its components side by side, and its value is made of theirs. With one child
-- `LayersAreComposed` says it.
pub record EveryLayerIsComposed : Type 0 where
  pub alone_down : (k : ReprKind) (e : Domain) (v : Value) → layer_tables (repr k no_reprs) e v [] ≡ tables_of_value (repr k no_reprs) e v
  pub alone_up : (k : ReprKind) (e : Domain) (ts : Tables) → is_compound k ≡ false → Covered (repr k no_reprs) e →
      value_of_tables (repr k no_reprs) e ts [] ≡ layer_value k e ts []
  pub tuple_down : (rs : Reprs) (es : Domains) (vs : Values) → Roomy (repr ReprKind.Tuple rs) (tuples es) →
      member (tuples es) (node a_tuple vs) ≡ true →
      tables_of_value (repr ReprKind.Tuple rs) (tuples es) (node a_tuple vs) ≡ tables_of_components rs (domain_list es) (to_list vs)
  pub tuple_up : (rs : Reprs) (es : Domains) (ts : Tables) → value_of_tables (repr ReprKind.Tuple rs) (tuples es) ts [] ≡
      option_map (λ vs. tuple (of_list vs)) (values_of_components rs (domain_list es) ts)
  pub record_down : (rs : Reprs) (fs gs : List Text) (es : Domains) (vs : Values) → Roomy (repr ReprKind.Rec rs) (records fs es) →
      member (records fs es) (node (a_record gs) vs) ≡ true →
      tables_of_value (repr ReprKind.Rec rs) (records fs es) (node (a_record gs) vs) ≡ tables_of_components rs (domain_list es) (to_list vs)
  pub record_up : (rs : Reprs) (fs : List Text) (es : Domains) (ts : Tables) →
      value_of_tables (repr ReprKind.Rec rs) (records fs es) ts [] ≡
      option_map (λ vs. node (a_record fs) (of_list vs)) (values_of_components rs (domain_list es) ts)

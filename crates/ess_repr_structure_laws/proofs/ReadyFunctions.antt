-- Functions are ready: what their structures ask of them follows from what is known of them.
use Rattle.std.proofs.Common.{◌≡◌, sym, ap, ◌∙◌, ℕ, ◌<◌, true, false, ◌&&◌, List, [], ◌∷◌}
use Rattle.ess_semantics.specs.declared.words.ReprKind.{ReprKind}
use Rattle.ess_semantics.specs.declared.words.Key.{Key}
use Rattle.ess_semantics.specs.Values.{Text}
use Rattle.ess_semantics.specs.Order.{same_text}
use Rattle.ess_semantics.specs.Kinds.{fits, all_fit}
use Rattle.ess_semantics.specs.Membership.{no_negative_attribute}
use Rattle.ess_semantics.specs.Trees.{Mark, Repr, repr, no_reprs, more_reprs, Exs, Dom, Doms, tuple_dom, function_dom}
use Rattle.ess_semantics.specs.Domains.{Attribute, Domain, Domains, functions, tuples}
use Rattle.ess_semantics.specs.Meaning.{Env}
use Rattle.ess_semantics.proofs.Tests.{and-left, and-right}
use Rattle.ess_repr_laws.specs.Rooms.{Roomy}
use Rattle.ess_repr_laws.specs.StructureMeaning.{Attributes, DomainIs, EachFlag, ValueKeyReady, FlagKeyReady}
use Rattle.ess_repr_laws.specs.StructureReady.{Ready}
use Rattle.ess_repr_laws.proofs.StructureConversions.{each-flag}
use Rattle.ess_repr_declare_laws.specs.ChildDomains.{child_doms}
use Rattle.ess_repr_declare_laws.specs.SizeTerms.{size_terms}
use Rattle.ess_repr_declare_laws.proofs.SizeNumbers.{not_below}
use Rattle.ess_repr_structure_laws.proofs.FittingChildren.{ChildrenFit, children-fit}
use Rattle.ess_repr_structure_laws.proofs.NeatDomains.{FunctionFlag}
use Rattle.ess_repr_structure_laws.proofs.ReadyParts.{N, Known, listed-is, tuples-listed, are-atoms, axis-are, axes-are, bare-function-is, values-listed, attributes-are}
use Rattle.ess_repr_structure_laws.proofs.Shapes.{function-parts, tuple-parts}

module _ (env0 : Env) (q : ℕ → Text) (q-apart : (m l : ℕ) → l < m → same_text (q m) (q l) ≡ false) where
  module _ (r : Repr) (ms : List Mark) (es : Exs) (d c : Dom) (ks : List Attribute) (x y : Domain)
      (i : Known env0 q q-apart r (function_dom ms es d c) (functions ks x y)) where
    pub from-is : DomainIs env0 q q-apart d x
    from-is bs = let p = function-parts ms es d c (N env0 q q-apart bs) ks x y (i.means bs) in p.1

    pub to-is : DomainIs env0 q q-apart c y
    to-is bs = let p = function-parts ms es d c (N env0 q q-apart bs) ks x y (i.means bs) in p.2

    front : not_below ks && no_negative_attribute x ≡ true
    front = and-left (not_below ks && no_negative_attribute x) (no_negative_attribute y) i.plain

    -- A function's attributes.
    pub function-attributes : Attributes env0 q q-apart size_terms ms es ks
    function-attributes =
        attributes-are env0 q q-apart ms es d ks x (and-left (not_below ks) (no_negative_attribute x) front)
        (and-right (not_below ks) (no_negative_attribute x) front)
        (λ bs. let p = function-parts ms es d c (N env0 q q-apart bs) ks x y (i.means bs) in p.0) from-is
        (λ bs. let n = i.numbers bs in n.0) (λ bs. let n = i.numbers bs in n.1)

    -- What attributes without a number ask of a function with a value for each argument.
    pub value-keys : (s : Repr) → EachFlag (ValueKeyReady env0 q q-apart s d c x y) ks
    value-keys s = each-flag (FunctionFlag x y) (ValueKeyReady env0 q q-apart s d c x y) ks one i.neat.1
      where
        one : (k : Key) → FunctionFlag x y k → ValueKeyReady env0 q q-apart s d c x y k
        one Key.Injective f = λ h. bare-function-is env0 q q-apart d c x y from-is to-is
        one Key.Surjective f = (bare-function-is env0 q q-apart d c x y from-is to-is, values-listed env0 q q-apart c y to-is f)
        one Key.Bijective f = (bare-function-is env0 q q-apart d c x y from-is to-is, values-listed env0 q q-apart c y to-is f)
        one _ f = tt

    -- Of one with flags.
    pub flag-keys : EachFlag (FlagKeyReady env0 q q-apart d c x y) ks
    flag-keys = each-flag (FunctionFlag x y) (FlagKeyReady env0 q q-apart d c x y) ks one i.neat.1
      where
        one : (k : Key) → FunctionFlag x y k → FlagKeyReady env0 q q-apart d c x y k
        one Key.Total f = listed-is x f.there
        one Key.Injective f = bare-function-is env0 q q-apart d c x y from-is to-is
        one Key.Surjective f = (bare-function-is env0 q q-apart d c x y from-is to-is, values-listed env0 q q-apart c y to-is f)
        one Key.Bijective f = (bare-function-is env0 q q-apart d c x y from-is to-is, values-listed env0 q q-apart c y to-is f)
        one _ f = tt

  -- What is known of the second domain of a function whose kind has it as its only child.
  pub function-child : (k : ReprKind) (r : Repr) (ms : List Mark) (es : Exs) (d c : Dom) (ks : List Attribute) (x y : Domain) →
      child_doms k (function_dom ms es d c) ≡ c ∷ [] →
      Known env0 q q-apart (repr k (more_reprs r no_reprs)) (function_dom ms es d c) (functions ks x y) → Roomy r y → Known env0 q q-apart r
      c y
  function-child k r ms es d c ks x y e i room =
      let f : ChildrenFit k (more_reprs r no_reprs) (function_dom ms es d c) = children-fit k (more_reprs r no_reprs)
      (function_dom ms es d c) i.sound i.fit in
      record {
        sound = i.sound.4;
        fit = and-left (fits r c) true (sym (ap (all_fit (more_reprs r no_reprs)) e) ∙ f.fit);
        room = room;
        neat = i.neat.3;
        plain = and-right (not_below ks && no_negative_attribute x) (no_negative_attribute y) i.plain;
        means = to-is (repr k (more_reprs r no_reprs)) ms es d c ks x y i;
        numbers = λ bs. let n = i.numbers bs in n.2;
      }

  -- A value for each argument.
  pub function-1d-ready : (r : Repr) (ms : List Mark) (es : Exs) (d c : Dom) (ks : List Attribute) (x y : Domain) →
      Known env0 q q-apart (repr ReprKind.Function1D (more_reprs r no_reprs)) (function_dom ms es d c) (functions ks x y) →
      Ready env0 q q-apart size_terms r c y →
      Ready env0 q q-apart size_terms (repr ReprKind.Function1D (more_reprs r no_reprs)) (function_dom ms es d c) (functions ks x y)
  function-1d-ready r ms es d c ks x y i child =
      let k = repr ReprKind.Function1D (more_reprs r no_reprs) in
      let l = listed-is x i.room.0.1 in (
        i.room.0.0,
        l,
        value-keys k ms es d c ks x y i r,
        axis-are env0 q q-apart d x (from-is k ms es d c ks x y i) l,
        function-attributes k
            ms es d c ks x y i,
        child,
      )

  pub function-nd-ready : (r : Repr) (ms : List Mark) (es : Exs) (ds : Doms) (c : Dom) (ks : List Attribute) (xs : Domains) (y : Domain) →
      Known env0 q q-apart (repr ReprKind.FunctionND (more_reprs r no_reprs)) (function_dom ms es (tuple_dom ds) c)
      (functions ks (tuples xs) y) →
      Ready env0 q q-apart size_terms r c y →
      Ready env0 q q-apart size_terms (repr ReprKind.FunctionND (more_reprs r no_reprs)) (function_dom ms es (tuple_dom ds) c)
      (functions ks (tuples xs) y)
  function-nd-ready r ms es ds c ks xs y i child =
      let k = repr ReprKind.FunctionND (more_reprs r no_reprs) in
      let m = from-is k ms es (tuple_dom ds) c ks (tuples xs) y i in (
        are-atoms xs i.room.0,
        tuples-listed xs i.room.0,
        value-keys k ms es (tuple_dom ds) c ks (tuples xs) y i r,
        axes-are env0 q q-apart ds xs (λ bs. tuple-parts ds (N env0 q q-apart bs) xs (m bs)) i.room.0,
        function-attributes k ms es (tuple_dom ds) c ks (tuples xs) y i,
        child,
      )

  -- A flag and a value for each argument.
  pub function-1d-partial-ready : (r : Repr) (ms : List Mark) (es : Exs) (d c : Dom) (ks : List Attribute) (x y : Domain) →
      Known env0 q q-apart (repr ReprKind.Function1DPartial (more_reprs r no_reprs)) (function_dom ms es d c) (functions ks x y) →
      Ready env0 q q-apart size_terms r c y →
      Ready env0 q q-apart size_terms (repr ReprKind.Function1DPartial (more_reprs r no_reprs)) (function_dom ms es d c) (functions ks x y)
  function-1d-partial-ready r ms es d c ks x y i child =
      let k = repr ReprKind.Function1DPartial (more_reprs r no_reprs) in (
        i.room.0.0,
        flag-keys k ms es d c ks x y i,
        axis-are env0 q q-apart d x (from-is k ms es d c ks x y i) (listed-is x i.room.0.1),
        function-attributes k ms es d c ks x y i,
        child,
      )

  pub function-nd-partial-ready : (r : Repr) (ms : List Mark) (es : Exs) (ds : Doms) (c : Dom) (ks : List Attribute) (xs : Domains)
      (y : Domain) →
      Known env0 q q-apart (repr ReprKind.FunctionNDPartial (more_reprs r no_reprs)) (function_dom ms es (tuple_dom ds) c)
      (functions ks (tuples xs) y) →
      Ready env0 q q-apart size_terms r c y →
      Ready env0 q q-apart size_terms (repr ReprKind.FunctionNDPartial (more_reprs r no_reprs)) (function_dom ms es (tuple_dom ds) c)
      (functions ks (tuples xs) y)
  function-nd-partial-ready r ms es ds c ks xs y i child =
      let k = repr ReprKind.FunctionNDPartial (more_reprs r no_reprs) in
      let m = from-is k ms es (tuple_dom ds) c ks (tuples xs) y i in (
        are-atoms xs i.room.0,
        flag-keys k ms es (tuple_dom ds) c ks (tuples xs) y i,
        axes-are env0 q q-apart ds xs (λ bs. tuple-parts ds (N env0 q q-apart bs) xs (m bs)) i.room.0,
        function-attributes k ms es (tuple_dom ds) c ks (tuples xs) y i,
        child,
      )

-- What a view offers, whatever its kind, may be put for the name of a fold over it, and has marks. Views of sets are of a law of their own.
use Rattle.std.proofs.Common.{◌≡◌, sym, ap, ◌∙◌, Bool, false, [], ◌∷◌, Some, Option, None}
use Rattle.ess_semantics.specs.declared.words.Fun.{Fun}
use Rattle.ess_semantics.specs.declared.words.ReprKind.{ReprKind}
use Rattle.ess_semantics.specs.Lists.{and_then}
use Rattle.ess_semantics.specs.Names.{Names}
use Rattle.ess_semantics.specs.OperatorTypes.{member_ty}
use Rattle.ess_semantics.specs.Trees.{Ex, repr, no_reprs, more_reprs, set_dom, comp_ex, fun1, Gens, seen_ex}
use Rattle.ess_semantics.specs.Types.{Ty, compound2, int_ty}
use Rattle.ess_semantics.specs.Typing.{source_ty}
use Rattle.ess_semantics.specs.Values.{Text, a_matrix}
use Rattle.ess_kind_rules_laws.specs.ViewListings.{view_listing, dom_seen, slots_seen, dummy_of_members, listing_of}
use Rattle.ess_kind_sizes_laws.specs.ViewsBehind.{is_view_of_set}
use Rattle.ess_refine_laws.specs.AllRules.{Supply, OfSome}
use Rattle.ess_refine_laws.specs.MarksStay.{HasMarks}
use Rattle.ess_refine_types_laws.proofs.TypeParts.{no}
use Rattle.ess_rules_laws.specs.DummyListings.{dummy_listing}
use Rattle.ess_rules_laws.specs.ListedSources.{laid_out, PutApart}
use Rattle.ess_rules_laws.specs.SetListings.{occurrence_listing}
use Rattle.ess_rules_laws.specs.SlotListings.{explicit_listing, marker_listing, flags_listing}
use Rattle.ess_rules_marks_laws.proofs.Grows.{grown}
use Rattle.ess_rules_types_laws.specs.PutTypes.{TablesAre, IsSteady}
use Rattle.ess_rules_types_laws.specs.TypesOfSources.{PutFits}
use Rattle.ess_kinds_typed_laws.proofs.OfferedPairs.{kept-offered, function-1d-offered, partial-nd-offered, once-offered, function-nd-offered, relation-offered, partial-1d-offered}
use Rattle.ess_kinds_typed_laws.proofs.OfferedTypes.{Offered, parts-offered, matrix-offered, counted-offered, repetitions-offered, occurrences-offered}
use Rattle.ess_kinds_typed_laws.specs.FoldsTyped.{SourceTyped, FoldOffered}

-- What is so of what is there in two ways.
both-some : {A : Type 0} (o : Option A) (P Q R : A → Type 0) → OfSome o P → OfSome o Q → ((a : A) → P a → Q a → R a) → OfSome o R
both-some None P Q R h k f = tt
both-some (Some a) P Q R h k f = f a h k

map-some : {A : Type 0} (o : Option A) (P Q : A → Type 0) → OfSome o P → ((a : A) → P a → Q a) → OfSome o Q
map-some None P Q h f = tt
map-some (Some a) P Q h f = f a h

module _ (s : Supply) (g : Names Ty) (w : Text → Bool) where
  -- ---- what isn't a set offers nothing as sets do

  no-occurrences : (v : Ex) → is_view_of_set v ≡ false → OfSome (occurrence_listing s.one v) (Offered g w v)
  no-occurrences (seen_ex (repr ReprKind.Occurrence no_reprs) (set_dom ms es d) (n ∷ []) js) i = no (sym i)
  no-occurrences _ i = tt

  no-explicit : (n v : Ex) → is_view_of_set v ≡ false → OfSome (explicit_listing s.one n v) (Offered g w v)
  no-explicit n (seen_ex (repr ReprKind.Explicit (more_reprs r no_reprs)) (set_dom ms es d) ns js) i = no (sym i)
  no-explicit n _ i = tt

  no-marker : (n v : Ex) → is_view_of_set v ≡ false → OfSome (marker_listing s.one n v) (Offered g w v)
  no-marker n (seen_ex (repr ReprKind.ExplicitVarSizeWithMarker (more_reprs r no_reprs)) (set_dom ms es d) (m ∷ ns) js) i = no (sym i)
  no-marker n _ i = tt

  no-flags : (n v : Ex) → is_view_of_set v ≡ false → OfSome (flags_listing s.one n v) (Offered g w v)
  no-flags n (seen_ex (repr ReprKind.ExplicitVarSizeWithFlags (more_reprs r no_reprs)) (set_dom ms es d) (m ∷ ns) js) i = no (sym i)
  no-flags n _ i = tt

  no-dummy : (n e v : Ex) → is_view_of_set v ≡ false → OfSome (dummy_listing s.one n e v) (Offered g w v)
  no-dummy n e (seen_ex (repr ReprKind.ExplicitVarSizeWithDummy no_reprs) (set_dom ms es d) (t ∷ []) js) i = no (sym i)
  no-dummy n e _ i = tt

  -- ---- by kinds

  by-kinds : (k : ReprKind) (v : Ex) → is_view_of_set v ≡ false → SourceTyped s g v → TablesAre w v →
      OfSome (listing_of k s.one s.other s.parts v) (Offered g w v)
  by-kinds ReprKind.Matrix v i f b = matrix-offered s g w v f b
  by-kinds ReprKind.Occurrence v i f b = no-occurrences v i
  by-kinds ReprKind.Explicit v i f b = no-explicit (slots_seen v) v i
  by-kinds ReprKind.ExplicitVarSizeWithMarker v i f b = no-marker (slots_seen v) v i
  by-kinds ReprKind.ExplicitVarSizeWithFlags v i f b = no-flags (slots_seen v) v i
  by-kinds ReprKind.ExplicitVarSizeWithDummy v i f b = no-dummy (slots_seen v) (dummy_of_members (dom_seen v)) v i
  by-kinds ReprKind.MSetOccurrence v i f b = occurrences-offered s g w v f b
  by-kinds ReprKind.MSetExplicitWithRepetition v i f b = repetitions-offered s g w v f b
  by-kinds ReprKind.MSetExplicitWithFlags v i f b = counted-offered s g w v f b
  by-kinds ReprKind.Function1D v i f b = function-1d-offered s g w v f b
  by-kinds ReprKind.Function1DPartial v i f b = partial-1d-offered s g w v f b
  by-kinds ReprKind.FunctionND v i f b = function-nd-offered s g w v f b
  by-kinds ReprKind.FunctionNDPartial v i f b = partial-nd-offered s g w v f b
  by-kinds ReprKind.FunctionAsRelation v i f b = kept-offered s g w v f
  by-kinds ReprKind.RelationAsMatrix v i f b = relation-offered s g w v f b
  by-kinds ReprKind.RelationAsSet v i f b = kept-offered s g w v f
  by-kinds ReprKind.PartitionAsSet v i f b = kept-offered s g w v f
  by-kinds ReprKind.PartitionOccurrence v i f b = parts-offered s g w v f b
  by-kinds _ v i f b = tt

  -- What is offered.
  pub all-offered : (v : Ex) → is_view_of_set v ≡ false → SourceTyped s g v → TablesAre w v →
      OfSome (view_listing s.one s.other s.parts v) (Offered g w v)
  all-offered (seen_ex (repr k rs) d ns js) i f b = by-kinds k (seen_ex (repr k rs) d ns js) i f b
  all-offered (fun1 false Fun.ToSet v) i f b = once-offered s g w v f b.0
  all-offered _ i f b = tt

-- ---- as folds ask

module _ (s : Supply) (g : Names Ty) (y : Text) (t e : Ex) (hs : Gens) (f : FoldOffered s g y t e hs) where
  -- It may be put for the name.
  pub offered-fits : IsSteady (comp_ex e hs) ((y, source_ty t g) ∷ g) →
      OfSome (view_listing s.one s.other s.parts t) (PutFits g y t e hs)
  offered-fits c =
      both-some (view_listing s.one s.other s.parts t) (PutApart f.bound f.scope y e hs) (Offered g f.tables t) (PutFits g y t e hs) f.apart
      (all-offered s g f.tables t f.no_set f.typed f.source) (λ a p o. (
        f.bound,
        f.scope,
        f.tables,
        p,
        f.fit,
        f.behind,
        o.item_tables,
        c,
        ap (λ z. and_then z member_ty) o.laid ∙ sym o.is_member,
      ))

  -- And has marks.
  pub offered-marked : HasMarks t g → OfSome (view_listing s.one s.other s.parts t) (λ a. HasMarks (laid_out a) g)
  offered-marked m =
      map-some (view_listing s.one s.other s.parts t) (Offered g f.tables t) (λ a. HasMarks (laid_out a) g)
      (all-offered s g f.tables t f.no_set f.typed f.source)
      (λ a o. grown g (laid_out a) (o.made m) (compound2 a_matrix int_ty o.item_type) o.laid)

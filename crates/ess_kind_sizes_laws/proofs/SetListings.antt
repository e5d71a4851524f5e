-- What views of sets offer, a kind at a time: what is so of the listing of each kind is so of the one that is offered.
use Rattle.std.proofs.Common.{true, false, List, [], ◌∷◌}
use Rattle.ess_semantics.specs.declared.words.Op2.{Op2}
use Rattle.ess_semantics.specs.declared.words.ReprKind.{ReprKind}
use Rattle.ess_semantics.specs.Values.{Text}
use Rattle.ess_semantics.specs.Trees.{Mark, Repr, Reprs, repr, no_reprs, more_reprs, name_pat, Ex, Exs, name_ex, cell_ex, seen_ex, ex2, no_gens, over, cond, Dom, set_dom}
use Rattle.ess_repr_declare_laws.specs.SizeTerms.{slots_ex, dummy_ex}
use Rattle.ess_rules_laws.specs.Listings.{Alternative}
use Rattle.ess_rules_laws.specs.SetListings.{put_last}
use Rattle.ess_rules_laws.specs.SlotListings.{slots_dom}
use Rattle.ess_refine_laws.specs.AllRules.{OfSome}
use Rattle.ess_kind_rules_laws.specs.ViewListings.{listing_of}

-- ---- the listings

module _ (x : Text) (ms : List Mark) (es : Exs) (d : Dom) (js : Exs) where
  -- How many slots there are.
  abbrev pub slots : Ex
  slots = slots_ex (set_dom ms es d)

  -- The place of x.
  abbrev pub place : Exs
  place = put_last js (name_ex x)

  -- The members that occur.
  abbrev pub of_occurrences : Text → Alternative
  of_occurrences n = record { gens = over (name_pat x) d (cond (cell_ex true n place) no_gens); item = name_ex x }

  -- The view in each slot, all in use.
  abbrev pub of_all : Repr → List Text → Alternative
  of_all r ns = record { gens = over (name_pat x) (slots_dom slots) no_gens; item = seen_ex r d ns place }

  -- In each slot up to the marker.
  abbrev pub of_marked : Repr → Text → List Text → Alternative
  of_marked r m ns = record {
    gens = over (name_pat x) (slots_dom slots) (cond (ex2 true Op2.Le (name_ex x) (cell_ex false m js)) no_gens);
    item = seen_ex r d ns place;
  }

  -- In each slot whose flag is true.
  abbrev pub of_flagged : Repr → Text → List Text → Alternative
  of_flagged r m ns = record {
    gens = over (name_pat x) (slots_dom slots) (cond (cell_ex true m place) no_gens);
    item = seen_ex r d ns place;
  }

  -- In each slot without the dummy.
  abbrev pub of_dummies : Text → Alternative
  of_dummies t = record {
    gens = over (name_pat x) (slots_dom slots) (cond (ex2 true Op2.Ne (cell_ex false t place) (dummy_ex d)) no_gens);
    item = seen_ex (repr ReprKind.Atom no_reprs) d (t ∷ []) place;
  }

  -- ---- by kinds

  -- P of the listing of each kind, with the kind, the children's representations and the tables.
  pub record OfEach (P : ReprKind → Reprs → List Text → Alternative → Type 0) : Type 0 where
    pub occurrences : (n : Text) → P ReprKind.Occurrence no_reprs (n ∷ []) (of_occurrences n)
    pub all : (r : Repr) (ns : List Text) → P ReprKind.Explicit (more_reprs r no_reprs) ns (of_all r ns)
    pub marked : (r : Repr) (m : Text) (ns : List Text) →
        P ReprKind.ExplicitVarSizeWithMarker (more_reprs r no_reprs) (m ∷ ns) (of_marked r m ns)
    pub flagged : (r : Repr) (m : Text) (ns : List Text) →
        P ReprKind.ExplicitVarSizeWithFlags (more_reprs r no_reprs) (m ∷ ns) (of_flagged r m ns)
    pub dummies : (t : Text) → P ReprKind.ExplicitVarSizeWithDummy no_reprs (t ∷ []) (of_dummies t)

  -- So it is of the one that is offered.
  pub by-kind : (P : ReprKind → Reprs → List Text → Alternative → Type 0) → OfEach P → (z : Text) (zs : List Text) (k : ReprKind)
      (rs : Reprs) (ns : List Text) → OfSome (listing_of k x z zs (seen_ex (repr k rs) (set_dom ms es d) ns js)) (P k rs ns)
  by-kind P h z zs ReprKind.Matrix no_reprs ns = tt
  by-kind P h z zs ReprKind.Matrix (more_reprs r no_reprs) ns = tt
  by-kind P h z zs ReprKind.Matrix (more_reprs r (more_reprs q rs)) ns = tt
  by-kind P h z zs ReprKind.Occurrence no_reprs [] = tt
  by-kind P h z zs ReprKind.Occurrence no_reprs (n ∷ []) = h.occurrences n
  by-kind P h z zs ReprKind.Occurrence no_reprs (n ∷ o ∷ ns) = tt
  by-kind P h z zs ReprKind.Occurrence (more_reprs r no_reprs) ns = tt
  by-kind P h z zs ReprKind.Occurrence (more_reprs r (more_reprs q rs)) ns = tt
  by-kind P h z zs ReprKind.Explicit no_reprs ns = tt
  by-kind P h z zs ReprKind.Explicit (more_reprs r no_reprs) ns = h.all r ns
  by-kind P h z zs ReprKind.Explicit (more_reprs r (more_reprs q rs)) ns = tt
  by-kind P h z zs ReprKind.ExplicitVarSizeWithMarker no_reprs ns = tt
  by-kind P h z zs ReprKind.ExplicitVarSizeWithMarker (more_reprs r no_reprs) [] = tt
  by-kind P h z zs ReprKind.ExplicitVarSizeWithMarker (more_reprs r no_reprs) (m ∷ ns) = h.marked r m ns
  by-kind P h z zs ReprKind.ExplicitVarSizeWithMarker (more_reprs r (more_reprs q rs)) ns = tt
  by-kind P h z zs ReprKind.ExplicitVarSizeWithFlags no_reprs ns = tt
  by-kind P h z zs ReprKind.ExplicitVarSizeWithFlags (more_reprs r no_reprs) [] = tt
  by-kind P h z zs ReprKind.ExplicitVarSizeWithFlags (more_reprs r no_reprs) (m ∷ ns) = h.flagged r m ns
  by-kind P h z zs ReprKind.ExplicitVarSizeWithFlags (more_reprs r (more_reprs q rs)) ns = tt
  by-kind P h z zs ReprKind.ExplicitVarSizeWithDummy no_reprs [] = tt
  by-kind P h z zs ReprKind.ExplicitVarSizeWithDummy no_reprs (t ∷ []) = h.dummies t
  by-kind P h z zs ReprKind.ExplicitVarSizeWithDummy no_reprs (t ∷ o ∷ ns) = tt
  by-kind P h z zs ReprKind.ExplicitVarSizeWithDummy (more_reprs r no_reprs) ns = tt
  by-kind P h z zs ReprKind.ExplicitVarSizeWithDummy (more_reprs r (more_reprs q rs)) ns = tt
  by-kind P h z zs ReprKind.MSetOccurrence no_reprs ns = tt
  by-kind P h z zs ReprKind.MSetOccurrence (more_reprs r no_reprs) ns = tt
  by-kind P h z zs ReprKind.MSetOccurrence (more_reprs r (more_reprs q rs)) ns = tt
  by-kind P h z zs ReprKind.MSetExplicitWithRepetition no_reprs ns = tt
  by-kind P h z zs ReprKind.MSetExplicitWithRepetition (more_reprs r no_reprs) ns = tt
  by-kind P h z zs ReprKind.MSetExplicitWithRepetition (more_reprs r (more_reprs q rs)) ns = tt
  by-kind P h z zs ReprKind.MSetExplicitWithFlags no_reprs ns = tt
  by-kind P h z zs ReprKind.MSetExplicitWithFlags (more_reprs r no_reprs) ns = tt
  by-kind P h z zs ReprKind.MSetExplicitWithFlags (more_reprs r (more_reprs q rs)) ns = tt
  by-kind P h z zs ReprKind.Function1D no_reprs ns = tt
  by-kind P h z zs ReprKind.Function1D (more_reprs r no_reprs) ns = tt
  by-kind P h z zs ReprKind.Function1D (more_reprs r (more_reprs q rs)) ns = tt
  by-kind P h z zs ReprKind.Function1DPartial no_reprs ns = tt
  by-kind P h z zs ReprKind.Function1DPartial (more_reprs r no_reprs) ns = tt
  by-kind P h z zs ReprKind.Function1DPartial (more_reprs r (more_reprs q rs)) ns = tt
  by-kind P h z zs ReprKind.FunctionND no_reprs ns = tt
  by-kind P h z zs ReprKind.FunctionND (more_reprs r no_reprs) ns = tt
  by-kind P h z zs ReprKind.FunctionND (more_reprs r (more_reprs q rs)) ns = tt
  by-kind P h z zs ReprKind.FunctionNDPartial no_reprs ns = tt
  by-kind P h z zs ReprKind.FunctionNDPartial (more_reprs r no_reprs) ns = tt
  by-kind P h z zs ReprKind.FunctionNDPartial (more_reprs r (more_reprs q rs)) ns = tt
  by-kind P h z zs ReprKind.FunctionAsRelation no_reprs ns = tt
  by-kind P h z zs ReprKind.FunctionAsRelation (more_reprs r no_reprs) ns = tt
  by-kind P h z zs ReprKind.FunctionAsRelation (more_reprs r (more_reprs q rs)) ns = tt
  by-kind P h z zs ReprKind.RelationAsMatrix no_reprs ns = tt
  by-kind P h z zs ReprKind.RelationAsMatrix (more_reprs r no_reprs) ns = tt
  by-kind P h z zs ReprKind.RelationAsMatrix (more_reprs r (more_reprs q rs)) ns = tt
  by-kind P h z zs ReprKind.RelationAsSet no_reprs ns = tt
  by-kind P h z zs ReprKind.RelationAsSet (more_reprs r no_reprs) ns = tt
  by-kind P h z zs ReprKind.RelationAsSet (more_reprs r (more_reprs q rs)) ns = tt
  by-kind P h z zs ReprKind.PartitionAsSet no_reprs ns = tt
  by-kind P h z zs ReprKind.PartitionAsSet (more_reprs r no_reprs) ns = tt
  by-kind P h z zs ReprKind.PartitionAsSet (more_reprs r (more_reprs q rs)) ns = tt
  by-kind P h z zs ReprKind.PartitionOccurrence no_reprs ns = tt
  by-kind P h z zs ReprKind.PartitionOccurrence (more_reprs r no_reprs) ns = tt
  by-kind P h z zs ReprKind.PartitionOccurrence (more_reprs r (more_reprs q rs)) ns = tt
  by-kind P h z zs _ rs ns = tt

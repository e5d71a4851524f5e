-- What sets in trees over views offer as sources: views their members by their kind, and sets made of two by the members of both. Domains
-- of views are nested and their indices names.
use Rattle.std.proofs.Common.{◌≡◌, ℕ, Bool, true, false, if◌then◌else◌, List, [], ◌∷◌, Option, Some, None}
use Rattle.ess_semantics.specs.declared.words.Op1.{Op1}
use Rattle.ess_semantics.specs.declared.words.Op2.{Op2}
use Rattle.ess_semantics.specs.Lists.{or_else}
use Rattle.ess_semantics.specs.Values.{Text}
use Rattle.ess_semantics.specs.Names.{Names}
use Rattle.ess_semantics.specs.Types.{Ty}
use Rattle.ess_semantics.specs.Typing.{type_of}
use Rattle.ess_semantics.specs.Trees.{Mark, Repr, Ex, Exs, name_ex, seen_ex, no_gens, cond, Dom, set_dom, relation_dom, ex1, ex2}
use Rattle.ess_rules_laws.specs.InclusionRules.{both_sets}
use Rattle.ess_rules_laws.specs.Listings.{Alternative, those, listing}
use Rattle.ess_refine_laws.specs.AllRules.{Supply, offered}
use Rattle.ess_kind_rules_laws.specs.ViewListings.{view_listing}
use Rattle.ess_open_rules_laws.specs.OpenSources.{all_offered}
use Rattle.ess_nested_laws.specs.NestedDomains.{are_written_sizes, is_written_atom}
use Rattle.ess_nested_laws.proofs.NestedForms.{no-yes, Sizes, no_sizes, one_size, sizes-form, WrittenAtom, written_truths, written_numbers, atom-form}
use Rattle.ess_seen_laws.specs.Seen.{Kind, Bound, Keeps, as_an_atom, by_occurrence, with_a_dummy, in_slots, with_a_marker, with_flags, Places, no_place, at_slot, united, shared, lessened, SetTerm, view, drawn, combined}
use Rattle.ess_seen_names_laws.specs.Shapes.{Numerals, no_numeral, numeral, Written, of_truths, of_numbers, of_sets, Steps, no_step, to_a_name, Laid, that_occur, but_the_dummy, in_all_slots, up_to_the_marker, where_flagged, of_the_first, else_of_the_second, of_both, of_the_first_alone, by_a_view, by_two, AllOffered}

-- ---- domains and indices

numerals-of : {ms : List Mark} {es : Exs} → Sizes ms es → Numerals es
numerals-of no_sizes = no_numeral
numerals-of (one_size k s) = numeral (numerals-of s)

written-sizes : (ms : List Mark) (es : Exs) → are_written_sizes ms es ≡ true → Numerals es
written-sizes ms es h = numerals-of (sizes-form ms es h)

written-of : {d : Dom} → WrittenAtom d → Written d
written-of written_truths = of_truths
written-of written_numbers = of_numbers

written-atom : (d : Dom) → is_written_atom d ≡ true → Written d
written-atom d h = written-of (atom-form d h)

-- What is said of a domain of sets.
abbrev pub OfSets : Dom → Type 0
OfSets (set_dom ms es d) = Numerals es × Written d
OfSets d = Unit {0}

atom-sets : {d : Dom} → WrittenAtom d → OfSets d
atom-sets written_truths = tt
atom-sets written_numbers = tt

-- What is said of a view: it is none of a relation, and if it is one of sets they are nested.
abbrev pub ViewOf : Ex → Type 0
ViewOf (seen_ex p (set_dom ms es d) ns js) = Numerals es × Written d × Steps js
ViewOf (seen_ex p (relation_dom ms es ds) ns js) = ⊥
ViewOf e = Unit {0}

-- Of a view of an atom nothing is said.
pub atom-view : {d : Dom} → WrittenAtom d → (p : Repr) (ns : List Text) (js : Exs) → ViewOf (seen_ex p d ns js)
atom-view written_truths p ns js = tt
atom-view written_numbers p ns js = tt

module _ (cells : Text → Option (Bool × List ℕ)) where
  -- Places are names.
  pub places-steps : {r : Names Bound} {es : Exs} {ks : List ℕ} → Places cells r es ks → Steps es
  places-steps no_place = no_step
  places-steps (at_slot h p) = to_a_name (places-steps p)

  -- Domains that are kept are written ones.
  kept-written : {ks : List ℕ} {p : Repr} {d : Dom} {ns : List Text} → Keeps cells ks p d ns → Written d
  kept-written (as_an_atom {d = d} h c) = written-atom d h
  kept-written (by_occurrence n {ms = ms} {es = es} {d = d} s h c) = of_sets (written-sizes ms es s) (written-atom d h)
  kept-written (with_a_dummy {ms = ms} {es = es} {d = d} s h b n c) = of_sets (written-sizes ms es s) (written-atom d h)
  kept-written (in_slots {ms = ms} {es = es} s n k) = of_sets (written-sizes ms es s) (kept-written k)
  kept-written (with_a_marker {ms = ms} {es = es} s n c k) = of_sets (written-sizes ms es s) (kept-written k)
  kept-written (with_flags {ms = ms} {es = es} s n c k) = of_sets (written-sizes ms es s) (kept-written k)

  -- So are their sizes, where the domain is one of sets.
  pub kept-sets : {ks : List ℕ} {p : Repr} {d : Dom} {ns : List Text} → Keeps cells ks p d ns → OfSets d
  kept-sets (as_an_atom {d = d} h c) = atom-sets (atom-form d h)
  kept-sets (by_occurrence n {ms = ms} {es = es} {d = d} s h c) = (written-sizes ms es s, written-atom d h)
  kept-sets (with_a_dummy {ms = ms} {es = es} {d = d} s h b n c) = (written-sizes ms es s, written-atom d h)
  kept-sets (in_slots {ms = ms} {es = es} s n k) = (written-sizes ms es s, kept-written k)
  kept-sets (with_a_marker {ms = ms} {es = es} s n c k) = (written-sizes ms es s, kept-written k)
  kept-sets (with_flags {ms = ms} {es = es} s n c k) = (written-sizes ms es s, kept-written k)

  -- ---- what a source offers

  -- What a view offers, if anything.
  abbrev pub OneLaid : Text → Ex → Option Alternative → Type 0
  OneLaid x t None = Unit {0}
  OneLaid x t (Some a) = Laid x t a

  -- The alternatives, if it offers any.
  abbrev pub SomeOffered : Text → Ex → Option (List Alternative) → Type 0
  SomeOffered x t None = Unit {0}
  SomeOffered x t (Some l) = AllOffered x t l

  -- What a set offers by the kind of a view.
  pub set-laid : {r : Names Bound} {t : Ex} {k : Kind} → SetTerm cells r t k → (x y : Text) (zs : List Text) →
      OneLaid x t (view_listing x y zs t)
  set-laid (view u f (as_an_atom h c) p) x y zs = absurd (no-yes h)
  set-laid (view u f (by_occurrence n {ms = ms} {es = es} {d = d} s h c) p) x y zs =
      that_occur (written-sizes ms es s) (written-atom d h) (places-steps p)
  set-laid (view u f (with_a_dummy {ms = ms} {es = es} {d = d} s h b n c) p) x y zs =
      but_the_dummy (written-sizes ms es s) (written-atom d h) (places-steps p)
  set-laid (view u f (in_slots {ms = ms} {es = es} s n k) p) x y zs =
      in_all_slots (written-sizes ms es s) (kept-written k) (places-steps p)
  set-laid (view u f (with_a_marker {ms = ms} {es = es} s n c k) p) x y zs =
      up_to_the_marker (written-sizes ms es s) (kept-written k) (places-steps p)
  set-laid (view u f (with_flags {ms = ms} {es = es} s n c k) p) x y zs =
      where_flagged (written-sizes ms es s) (kept-written k) (places-steps p)
  set-laid (drawn h) x y zs = tt
  set-laid (combined united h k) x y zs = tt
  set-laid (combined shared h k) x y zs = tt
  set-laid (combined lessened h k) x y zs = tt

  if-offered : (x : Text) (t : Ex) (b : Bool) (l : List Alternative) → AllOffered x t l → SomeOffered x t (if b then Some l else None)
  if-offered x t true l h = h
  if-offered x t false l h = tt

  first-offered : (x : Text) (t : Ex) (o p : Option (List Alternative)) → SomeOffered x t o → SomeOffered x t p →
      SomeOffered x t (or_else o p)
  first-offered x t None p h k = k
  first-offered x t (Some l) p h k = h

  -- What a set made of two offers by its form.
  united-listed : (x : Text) (g : Names Ty) (a b : Ex) → SomeOffered x (ex2 false Op2.Union a b) (listing g x (ex2 false Op2.Union a b))
  united-listed x g a b =
      if-offered x (ex2 false Op2.Union a b) (both_sets (type_of a g) (type_of b g))
      (those x a no_gens ∷ those x b (cond (ex1 true Op1.Not (ex2 true Op2.Member (name_ex x) a)) no_gens) ∷ [])
      (by_two of_the_first, (by_two else_of_the_second, tt))

  shared-listed : (x : Text) (g : Names Ty) (a b : Ex) →
      SomeOffered x (ex2 false Op2.Intersect a b) (listing g x (ex2 false Op2.Intersect a b))
  shared-listed x g a b = if-offered x (ex2 false Op2.Intersect a b) (both_sets (type_of a g) (type_of b g))
      (those x a (cond (ex2 true Op2.Member (name_ex x) b) no_gens) ∷ []) (by_two of_both, tt)

  lessened-listed : (x : Text) (g : Names Ty) (a b : Ex) → SomeOffered x (ex2 false Op2.Minus a b) (listing g x (ex2 false Op2.Minus a b))
  lessened-listed x g a b = if-offered x (ex2 false Op2.Minus a b) (both_sets (type_of a g) (type_of b g))
      (those x a (cond (ex1 true Op1.Not (ex2 true Op2.Member (name_ex x) b)) no_gens) ∷ []) (by_two of_the_first_alone, tt)

  -- What a set offers by its form, whatever its kind.
  pub set-listed : {r : Names Bound} {t : Ex} {k : Kind} → SetTerm cells r t k → (s : Supply) (g : Names Ty) →
      SomeOffered s.one t (offered s g t)
  set-listed (view n f k p) s g = tt
  set-listed (drawn h) s g = tt
  set-listed (combined {s = a} {t = b} united h k) s g =
      first-offered s.one (ex2 false Op2.Union a b) (listing g s.one (ex2 false Op2.Union a b)) None
      (united-listed s.one g a b) tt
  set-listed (combined {s = a} {t = b} shared h k) s g =
      first-offered s.one (ex2 false Op2.Intersect a b) (listing g s.one (ex2 false Op2.Intersect a b)) None
      (shared-listed s.one g a b) tt
  set-listed (combined {s = a} {t = b} lessened h k) s g =
      first-offered s.one (ex2 false Op2.Minus a b) (listing g s.one (ex2 false Op2.Minus a b)) None
      (lessened-listed s.one g a b) tt

  -- Whatever tells what it offers.
  pub set-offered : {r : Names Bound} {t : Ex} {k : Kind} → SetTerm cells r t k → (s : Supply) (g : Names Ty) →
      SomeOffered s.one t (all_offered s g t)
  set-offered (view u f (as_an_atom h c) p) s g = absurd (no-yes h)
  set-offered (view u f (by_occurrence n {ms = ms} {es = es} {d = d} w h c) p) s g =
      (by_a_view (that_occur (written-sizes ms es w) (written-atom d h) (places-steps p)), tt)
  set-offered (view u f (with_a_dummy {ms = ms} {es = es} {d = d} w h b n c) p) s g =
      (by_a_view (but_the_dummy (written-sizes ms es w) (written-atom d h) (places-steps p)), tt)
  set-offered (view u f (in_slots {ms = ms} {es = es} w n k) p) s g =
      (by_a_view (in_all_slots (written-sizes ms es w) (kept-written k) (places-steps p)), tt)
  set-offered (view u f (with_a_marker {ms = ms} {es = es} w n c k) p) s g =
      (by_a_view (up_to_the_marker (written-sizes ms es w) (kept-written k) (places-steps p)), tt)
  set-offered (view u f (with_flags {ms = ms} {es = es} w n c k) p) s g =
      (by_a_view (where_flagged (written-sizes ms es w) (kept-written k) (places-steps p)), tt)
  set-offered (drawn h) s g = tt
  set-offered (combined {s = a} {t = b} united h k) s g =
      first-offered s.one (ex2 false Op2.Union a b) (offered s g (ex2 false Op2.Union a b)) None (set-listed (combined united h k) s g) tt
  set-offered (combined {s = a} {t = b} shared h k) s g =
      first-offered s.one (ex2 false Op2.Intersect a b) (offered s g (ex2 false Op2.Intersect a b)) None
      (set-listed (combined shared h k) s g) tt
  set-offered (combined {s = a} {t = b} lessened h k) s g =
      first-offered s.one (ex2 false Op2.Minus a b) (offered s g (ex2 false Op2.Minus a b)) None (set-listed (combined lessened h k) s g) tt

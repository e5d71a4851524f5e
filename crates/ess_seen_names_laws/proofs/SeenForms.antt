-- What a tree over views tells of its forms: of views that their domains are nested and their indices names, and of comprehensions that the
-- sources which rules lay open are sets.
use Rattle.std.proofs.Common.{ℕ, Bool, false, List, [], ◌∷◌, Option, Some, None, option_map}
use Rattle.ess_semantics.specs.declared.words.Fun.{Fun}
use Rattle.ess_semantics.specs.declared.words.ReprKind.{ReprKind}
use Rattle.ess_semantics.specs.Values.{Text}
use Rattle.ess_semantics.specs.Names.{Names}
use Rattle.ess_semantics.specs.Trees.{repr, no_reprs, name_pat, Ex, comp_ex, seen_ex, Gens, over, from, cond, ex1, ex2, fun1}
use Rattle.ess_rules_laws.specs.SlotListings.{slots_dom}
use Rattle.ess_open_rules_laws.specs.OpenGenerators.{Opened, with_first, at_first_open}
use Rattle.ess_nested_laws.proofs.NestedForms.{atom-form}
use Rattle.ess_seen_laws.specs.Seen.{Kind, Bound, Counted, so_many, from_to, from_0, subsets, none_below, as_an_atom, SetTerm, view, drawn, combined, Seen, number, truth, named, counted, figure, flag, atom, one, two, chosen, folded, of_items, size, within, set_within, compared, Going, at_end, through, through_slots, among, where_holds, truths, numbers}
use Rattle.ess_seen_names_laws.specs.Shapes.{Steps}
use Rattle.ess_seen_names_laws.proofs.SetsOffer.{ViewOf, atom-view, places-steps, kept-sets}

-- A number of slots is no view, and neither is what it is made of.
counted-view : {e : Ex} {n : ℕ} → Counted e n → ViewOf e
counted-view so_many = tt
counted-view (from_to q) = tt
counted-view from_0 = tt
counted-view (subsets k) = tt
counted-view (none_below k) = tt

module _ (cells : Text → Option (Bool × List ℕ)) where
  -- ---- generators

  -- The first source is a set.
  abbrev pub FirstSource : Gens → Type 0
  FirstSource (from p t hs) = (r : Names Bound) × (k : Kind) × SetTerm cells r t k
  FirstSource gs = Unit {0}

  -- So is that at the first generator that isn't plain.
  abbrev pub OpenedSource : Option Opened → Type 0
  OpenedSource None = Unit {0}
  OpenedSource (Some t) = FirstSource t.after

  opened-behind : (f : Gens → Gens) (o : Option Opened) → OpenedSource o → OpenedSource (option_map (with_first f) o)
  opened-behind f None h = tt
  opened-behind f (Some t) h = h

  going-source : {r t : Names Bound} {gs : Gens} → Going cells r gs t → FirstSource gs
  going-source at_end = tt
  going-source (through n k) = tt
  going-source (through_slots c k) = tt
  going-source {r = r} (among {k = k} s g) = (r, k, s)
  going-source (where_holds c k) = tt

  going-opened : {r t : Names Bound} {gs : Gens} → Going cells r gs t → OpenedSource (at_first_open gs)
  going-opened at_end = tt
  going-opened (through {a = a} {d = d} {gs = gs} truths k) = opened-behind (over (name_pat a) d) (at_first_open gs) (going-opened k)
  going-opened (through {a = a} {d = d} {gs = gs} (numbers b es) k) =
      opened-behind (over (name_pat a) d) (at_first_open gs) (going-opened k)
  going-opened (through_slots {a = a} {e = e} {gs = gs} c k) =
      opened-behind (over (name_pat a) (slots_dom e)) (at_first_open gs) (going-opened k)
  going-opened {r = r} (among {k = k} s g) = (r, k, s)
  going-opened (where_holds {c = c} {gs = gs} f k) = opened-behind (cond c) (at_first_open gs) (going-opened k)

  -- ---- forms

  -- What is told of a tree.
  abbrev pub Forms : Ex → Type 0
  Forms (seen_ex p d ns js) = Steps js
  Forms (ex1 b o v) = ViewOf v
  Forms (ex2 b o a v) = ViewOf v
  Forms (fun1 m w (comp_ex i gs)) = FirstSource gs × OpenedSource (at_first_open gs)
  Forms e = Unit {0}

  set-view : {r : Names Bound} {t : Ex} {k : Kind} → SetTerm cells r t k → ViewOf t
  set-view (view n f k p) = let w = kept-sets cells k in (w.0, w.1, places-steps cells p)
  set-view (drawn h) = tt
  set-view (combined c h k) = tt

  scalar-view : {r : Names Bound} {e : Ex} {m : Bool} → Seen cells r e m → ViewOf e
  scalar-view number = tt
  scalar-view truth = tt
  scalar-view (named h q) = tt
  scalar-view (counted k) = counted-view k
  scalar-view (figure h p) = tt
  scalar-view (flag h i) = tt
  scalar-view (atom {d = d} {n = n} {js = js} (as_an_atom h c) p) = atom-view (atom-form d h) (repr ReprKind.Atom no_reprs) (n ∷ []) js
  scalar-view (one o f) = tt
  scalar-view (two o f h) = tt
  scalar-view (chosen f) = tt
  scalar-view (folded w k f) = tt
  scalar-view (of_items w f) = tt
  scalar-view (size s) = tt
  scalar-view (within f s) = tt
  scalar-view (set_within h s) = tt
  scalar-view (compared c h s) = tt

  counted-forms : {e : Ex} {n : ℕ} → Counted e n → Forms e
  counted-forms so_many = tt
  counted-forms (from_to q) = tt
  counted-forms from_0 = tt
  counted-forms (subsets k) = counted-view k
  counted-forms (none_below k) = tt

  -- Of a tree behind `toInt`, which is no comprehension.
  counted-chosen : {e : Ex} {n : ℕ} → Counted e n → Forms (fun1 false Fun.ToInt e)
  counted-chosen so_many = tt
  counted-chosen (from_to q) = tt
  counted-chosen from_0 = tt
  counted-chosen (subsets k) = tt
  counted-chosen (none_below k) = tt

  chosen-forms : {r : Names Bound} {e : Ex} {m : Bool} → Seen cells r e m → Forms (fun1 false Fun.ToInt e)
  chosen-forms number = tt
  chosen-forms truth = tt
  chosen-forms (named h q) = tt
  chosen-forms (counted k) = counted-chosen k
  chosen-forms (figure h p) = tt
  chosen-forms (flag h i) = tt
  chosen-forms (atom k p) = tt
  chosen-forms (one o f) = tt
  chosen-forms (two o f h) = tt
  chosen-forms (chosen f) = tt
  chosen-forms (folded w k f) = tt
  chosen-forms (of_items w f) = tt
  chosen-forms (size s) = tt
  chosen-forms (within f s) = tt
  chosen-forms (set_within h s) = tt
  chosen-forms (compared c h s) = tt

  pub forms : {r : Names Bound} {e : Ex} {m : Bool} → Seen cells r e m → Forms e
  forms number = tt
  forms truth = tt
  forms (named h q) = tt
  forms (counted k) = counted-forms k
  forms (figure h p) = tt
  forms (flag h i) = tt
  forms (atom k p) = places-steps cells p
  forms (one o f) = scalar-view f
  forms (two o f h) = scalar-view h
  forms (chosen f) = chosen-forms f
  forms (folded w k f) = (going-source k, going-opened k)
  forms (of_items w f) = tt
  forms (size s) = set-view s
  forms (within f s) = set-view s
  forms (set_within h s) = set-view s
  forms (compared c h s) = set-view s

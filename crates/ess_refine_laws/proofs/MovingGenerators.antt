-- Generators, lists and operands: they are refined, or one moves.
use Rattle.std.proofs.Common.{◌≡◌, refl, sym, ap, subst, Bool, true, false, ◌&&◌, if◌then◌else◌, List, Some, None}
use Rattle.ess_semantics.specs.Values.{Text}
use Rattle.ess_semantics.specs.Names.{Names}
use Rattle.ess_semantics.specs.Kinds.{is_bounded}
use Rattle.ess_semantics.specs.Trees.{Ends, matrix_literal, Pat, Pats, name_pat, tuple_pat, no_pats, more_pats, Ex, Exs, node_ex, comp_ex, cell_ex, more_exs, Gens, over, from, cond, Dom, Doms, int_dom, tuple_dom, record_dom, no_doms, more_doms}
use Rattle.ess_semantics.specs.Types.{Ty, int_ty, type_of_dom, types_of_doms, bind_types}
use Rattle.ess_semantics.specs.ExpressionJudgements.{pattern_fits, patterns_fit}
use Rattle.ess_semantics.specs.Contexts.{InGens, in_operand, in_body, in_generators, in_cell_index, in_first, in_later, in_generator_domain, behind_over, in_condition, behind_condition, in_bound, fill_gens}
use Rattle.ess_semantics.specs.NamesAt.{names_behind, names_at_gens}
use Rattle.ess_semantics.specs.Refined.{is_refined, are_refined, is_refined_list, are_refined_lists, are_refined_gens}
use Rattle.ess_semantics.proofs.Tests.{and-right, and-both}
use Rattle.ess_rules_laws.specs.SpliceRules.{append_gens}
use Rattle.ess_rules_laws.specs.SplitRules.{as_many, split, each_over}
use Rattle.ess_rules_laws.specs.TupleNames.{are_names, name_over_tuple, tuples_over}
use Rattle.ess_rules_laws.specs.Progress.{HasMembers}
use Rattle.ess_refine_laws.specs.AllRules.{Supply}
use Rattle.ess_refine_laws.specs.RecordNames.{are_in_order, records_over, name_over_record}
use Rattle.ess_refine_laws.specs.Progress.{Moves, at_a_source, at_a_pattern, at_a_tuple, at_a_record, Progress, is_done, goes_on}
use Rattle.ess_refine_laws.proofs.MovingNodes.{OnExs, exs_done, exs_go, OnLists, lists_done, lists_go, OnList, list_done, list_goes, here}

-- ---- generators

-- The first generator that isn't refined, where it is over a source, a pattern, a tuple or a record of domains.
module _ (sup : Supply) where
  pub data GensMove (g : Names Ty) (gs : Gens) : Type 0 where
    source_moves : (hs : Gens) (p : Pat) (s : Ex) (ks : Gens) → gs ≡ append_gens hs (from p s ks) →
        HasMembers (names_behind hs g) sup.one sup.other s →
        GensMove g gs
    pattern_moves : (hs : Gens) (p : Pat) (c : Dom) (ks : Gens) → gs ≡ append_gens hs (over p c ks) →
        ((e : Ex) → (f : Ex) × (split (comp_ex e (over p c ks)) ≡ Some f)) → GensMove g gs
    tuple_moves : (hs : Gens) (a : Text) (ds : Doms) (ks : Gens) → gs ≡ append_gens hs (over (name_pat a) (tuple_dom ds) ks) → GensMove g gs
    record_moves : (hs : Gens) (a : Text) (fs : List Text) (ds : Doms) (ks : Gens) →
        gs ≡ append_gens hs (over (name_pat a) (record_dom fs ds) ks) → are_in_order fs ds ≡ true → GensMove g gs

  -- Behind one more generator.
  move-over : (g : Names Ty) (p : Pat) (c : Dom) (gs : Gens) → GensMove (bind_types p (type_of_dom c) g) gs → GensMove g (over p c gs)
  move-over g p c gs (source_moves hs q s ks e m) = source_moves (over p c hs) q s ks (ap (over p c) e) m
  move-over g p c gs (pattern_moves hs q b ks e m) = pattern_moves (over p c hs) q b ks (ap (over p c) e) m
  move-over g p c gs (tuple_moves hs a ds ks e) = tuple_moves (over p c hs) a ds ks (ap (over p c) e)
  move-over g p c gs (record_moves hs a fs ds ks e o) = record_moves (over p c hs) a fs ds ks (ap (over p c) e) o

  move-cond : (g : Names Ty) (c : Ex) (gs : Gens) → GensMove g gs → GensMove g (cond c gs)
  move-cond g c gs (source_moves hs q s ks e m) = source_moves (cond c hs) q s ks (ap (cond c) e) m
  move-cond g c gs (pattern_moves hs q b ks e m) = pattern_moves (cond c hs) q b ks (ap (cond c) e) m
  move-cond g c gs (tuple_moves hs a ds ks e) = tuple_moves (cond c hs) a ds ks (ap (cond c) e)
  move-cond g c gs (record_moves hs a fs ds ks e o) = record_moves (cond c hs) a fs ds ks (ap (cond c) e) o

-- A pattern that fits a tuple of domains has as many parts.
pub parts-fit : (ps : Pats) (ds : Doms) → patterns_fit ps (types_of_doms ds) ≡ true → as_many ps ds ≡ true
parts-fit no_pats no_doms h = refl
parts-fit no_pats (more_doms c ds) h = h
parts-fit (more_pats p ps) no_doms h = h
parts-fit (more_pats p ps) (more_doms c ds) h =
    parts-fit ps ds (and-right (pattern_fits p (type_of_dom c)) (patterns_fit ps (types_of_doms ds)) h)

-- So the pattern comes apart.
pub split-fires : (ps : Pats) (ds : Doms) (ks : Gens) (e : Ex) → as_many ps ds ≡ true →
    (f : Ex) × (split (comp_ex e (over (tuple_pat ps) (tuple_dom ds) ks)) ≡ Some f)
split-fires ps ds ks e h = (comp_ex e (each_over ps ds ks), ap (λ b. if b then Some (comp_ex e (each_over ps ds ks)) else None) h)

-- A name over a tuple becomes the tuple of any new names.
name-fires : (ys : List Text) (a : Text) (ds : Doms) (ks : Gens) (e : Ex) → are_names ys ds ≡ true →
    (f : Ex) × (name_over_tuple ys (comp_ex e (over (name_pat a) (tuple_dom ds) ks)) ≡ Some f)
name-fires ys a ds ks e h = (
  comp_ex e (from (name_pat a) (tuples_over ys ds) ks),
  ap (λ b. if b then Some (comp_ex e (from (name_pat a)
      (tuples_over ys ds) ks)) else None) h,
)

-- A name over a record becomes the record of any new names.
record-fires : (ys : List Text) (a : Text) (fs : List Text) (ds : Doms) (ks : Gens) (e : Ex) → are_names ys ds ≡ true →
    are_in_order fs ds ≡ true → (f : Ex) × (name_over_record ys (comp_ex e (over (name_pat a) (record_dom fs ds) ks)) ≡ Some f)
record-fires ys a fs ds ks e h k = (
  comp_ex e (from (name_pat a) (records_over fs ys ds) ks),
  ap (λ b. if b then Some (comp_ex e (from (name_pat a) (records_over fs ys ds) ks)) else None)
      (and-both (are_names ys ds) (are_in_order fs ds) h k),
)

module _ (sup : Supply) where
  pub record WorkGens (g : Names Ty) (gs : Gens) : Type 0 where
    pub context : InGens
    pub part : Ex
    pub whole : gs ≡ fill_gens context part
    pub moves : Moves sup (names_at_gens context g) part

  pub data OnGens (g : Names Ty) (gs : Gens) : Type 0 where
    gens_done : are_refined_gens gs ≡ true → OnGens g gs
    gens_go : WorkGens g gs → OnGens g gs
    gens_move : GensMove sup g gs → OnGens g gs

  -- A generator over an atom without bounds, before others.
  pub behind-atom : (g : Names Ty) (p : Pat) (c : Dom) (gs : Gens) → (are_refined_gens gs ≡ true → are_refined_gens (over p c gs) ≡ true) →
      OnGens (bind_types p (type_of_dom c) g) gs → OnGens g (over p c gs)
  behind-atom g p c gs k (gens_done h) = gens_done (k h)
  behind-atom g p c gs k (gens_go w) = gens_go (record {
    context = behind_over p c w.context;
    part = w.part;
    whole = ap (over p c) w.whole;
    moves = w.moves;
  })
  behind-atom g p c gs k (gens_move m) = gens_move (move-over sup g p c gs m)

  -- One over ranges, whose bounds have been seen to.
  pub behind-range : (g : Names Ty) (a : Text) (rs : List Ends) (es : Exs) (gs : Gens) → is_bounded rs ≡ true → OnExs sup g es →
      OnGens (bind_types (name_pat a) int_ty g) gs → OnGens g (over (name_pat a) (int_dom rs es) gs)
  behind-range g a rs es gs r (exs_done h) o = behind-atom g (name_pat a) (int_dom rs es) gs
      (λ k. and-both (is_bounded rs && are_refined es) (are_refined_gens gs) (and-both (is_bounded rs) (are_refined es) r h) k) o
  behind-range g a rs es gs r (exs_go w) o = gens_go (record {
    context = in_generator_domain (name_pat a) (in_bound rs w.context) gs;
    part = w.part;
    whole = ap (λ z. over (name_pat a) (int_dom rs z) gs) w.whole;
    moves = w.moves;
  })

  -- A condition that has been seen to.
  pub behind-cond : (g : Names Ty) (c : Ex) (gs : Gens) → Progress sup g c → OnGens g gs → OnGens g (cond c gs)
  behind-cond g c gs (goes_on w) o = gens_go (record {
    context = in_condition w.context gs;
    part = w.part;
    whole = ap (λ z. cond z gs) w.whole;
    moves = w.moves;
  })
  behind-cond g c gs (is_done h) (gens_done k) = gens_done (and-both (is_refined c) (are_refined_gens gs) h k)
  behind-cond g c gs (is_done h) (gens_go w) = gens_go (record {
    context = behind_condition c w.context;
    part = w.part;
    whole = ap (cond c) w.whole;
    moves = w.moves;
  })
  behind-cond g c gs (is_done h) (gens_move m) = gens_move (move-cond sup g c gs m)

  -- ---- lists and operands

  pub first-of : (g : Names Ty) (e : Ex) (es : Exs) → Progress sup g e → OnExs sup g es → OnExs sup g (more_exs e es)
  first-of g e es (goes_on w) o = exs_go (record {
    context = in_first w.context es;
    part = w.part;
    whole = ap (λ z. more_exs z es) w.whole;
    moves = w.moves;
  })
  first-of g e es (is_done h) (exs_done k) = exs_done (and-both (is_refined e) (are_refined es) h k)
  first-of g e es (is_done h) (exs_go w) = exs_go (record {
    context = in_later e w.context;
    part = w.part;
    whole = ap (more_exs e) w.whole;
    moves = w.moves;
  })

  pub first-list : (g : Names Ty) (l : Ex) (es : Exs) → OnList sup g l → OnLists sup g es → OnLists sup g (more_exs l es)
  first-list g l es (list_goes w) o = lists_go (record {
    context = in_first w.context es;
    part = w.part;
    whole = ap (λ z. more_exs z es) w.whole;
    moves = w.moves;
  })
  first-list g l es (list_done h) (lists_done k) = lists_done (and-both (is_refined_list l) (are_refined_lists es) h k)
  first-list g l es (list_done h) (lists_go w) = lists_go (record {
    context = in_later l w.context;
    part = w.part;
    whole = ap (more_exs l) w.whole;
    moves = w.moves;
  })

  -- What moves among the generators moves at the comprehension.
  comp-moves : (g : Names Ty) (e : Ex) (gs : Gens) → GensMove sup g gs → Moves sup g (comp_ex e gs)
  comp-moves g e gs (source_moves hs p s ks q m) =
      subst (λ z. Moves sup g (comp_ex e z)) (sym q) (at_a_source e hs p s ks m)
  comp-moves g e gs (pattern_moves hs p c ks q m) =
      let r = m e in subst (λ z. Moves sup g (comp_ex e z)) (sym q) (at_a_pattern e r.0 hs p c ks r.1)
  comp-moves g e gs (tuple_moves hs a ds ks q) =
      subst (λ z. Moves sup g (comp_ex e z)) (sym q) (at_a_tuple e hs a ds ks (λ ys n. name-fires ys a ds ks e n))
  comp-moves g e gs (record_moves hs a fs ds ks q o) =
      subst (λ z. Moves sup g (comp_ex e z)) (sym q) (at_a_record e hs a fs ds ks (λ ys n. record-fires ys a fs ds ks e n o))

  pub of-comp : (g : Names Ty) (e : Ex) (gs : Gens) → Progress sup (names_behind gs g) e → OnGens g gs → OnList sup g (comp_ex e gs)
  of-comp g e gs p (gens_go w) = list_goes (record {
    context = in_generators e w.context;
    part = w.part;
    whole = ap (comp_ex e) w.whole;
    moves = w.moves;
  })
  of-comp g e gs p (gens_move m) = list_goes (here sup (comp-moves g e gs m))
  of-comp g e gs (is_done h) (gens_done k) = list_done (and-both (is_refined e) (are_refined_gens gs) h k)
  of-comp g e gs (goes_on w) (gens_done k) = list_goes (record {
    context = in_body w.context gs;
    part = w.part;
    whole = ap (λ z. comp_ex z gs) w.whole;
    moves = w.moves;
  })

  pub of-literal : (g : Names Ty) (es : Exs) → OnExs sup g es → OnList sup g (node_ex false matrix_literal es)
  of-literal g es (exs_done h) = list_done h
  of-literal g es (exs_go w) = list_goes (record {
    context = in_operand false matrix_literal w.context;
    part = w.part;
    whole = ap (node_ex false matrix_literal) w.whole;
    moves = w.moves;
  })

  pub of-cell : (g : Names Ty) (b : Bool) (n : Text) (es : Exs) → OnExs sup g es → Progress sup g (cell_ex b n es)
  of-cell g b n es (exs_done h) = is_done h
  of-cell g b n es (exs_go w) = goes_on (record {
    context = in_cell_index b n w.context;
    part = w.part;
    whole = ap (cell_ex b n) w.whole;
    moves = w.moves;
  })

-- What the rules that read the kind of a view make of cells, memberships and sizes in a tree over views is one with the same mark.
use Rattle.std.proofs.Common.{◌≡◌, refl, sym, ◌∙◌, ℕ, Bool, true, false, List, [], ◌∷◌, ◌++◌, length, Option}
use Rattle.ess_semantics.specs.declared.words.Op1.{Op1}
use Rattle.ess_semantics.specs.declared.words.Op2.{Op2}
use Rattle.ess_semantics.specs.Values.{Text}
use Rattle.ess_semantics.specs.Names.{Names}
use Rattle.ess_semantics.specs.Meaning.{is_bool_dom}
use Rattle.ess_semantics.specs.Trees.{Ex, Exs, no_exs, more_exs, ex1, ex2}
use Rattle.ess_rules_laws.specs.AtomViews.{atom_cell}
use Rattle.ess_rules_laws.specs.FunctionViews.{append_exs}
use Rattle.ess_rules_laws.specs.OccurrenceViews.{member_by_cell}
use Rattle.ess_rules_laws.specs.SetSizes.{size_by_marker, size_by_slots}
use Rattle.ess_kind_rules_laws.specs.ViewListings.{slots_of_operand}
use Rattle.ess_flat_laws.specs.Flat.{denied, absolute, both}
use Rattle.ess_nested_laws.proofs.NestedForms.{atom-form}
use Rattle.ess_seen_laws.specs.ess_bare_laws.Lean.{of_all}
use Rattle.ess_seen_laws.specs.Seen.{Kind, scalars, sets_of, Bound, alike, so_many, as_an_atom, by_occurrence, with_a_dummy, in_slots, with_a_marker, with_flags, Places, no_place, at_slot, SetTerm, view, drawn, combined, Seen, number, named, counted, figure, flag, atom, one, two, folded, of_items, size, within, set_within, compared, Indices, no_index, one_index}
use Rattle.ess_seen_laws.specs.Laws.{SeenTreesStayAmongMore}
use Rattle.ess_seen_stays_laws.proofs.Terms.{atom-kind, cell-seen}
use Rattle.ess_seen_stays_laws.proofs.MadePlainly.{Made}

-- Scalars are no sets.
no-sets : {m : Bool} {k : Kind} → scalars m ≡ sets_of k → ⊥
no-sets e = cc

module _ (cells : Text → Option (Bool × List ℕ)) (r : Names Bound) where
  -- One more index, which is a scalar.
  places-with : (k : ℕ) {js : Exs} {ks : List ℕ} {a : Ex} {m : Bool} → Places cells r js ks → Seen cells r a m →
      Indices cells r (append_exs js (more_exs a no_exs)) (length (ks ++ (k ∷ [])))
  places-with k no_place f = one_index f no_index
  places-with k (at_slot h p) f = one_index (named h refl) (places-with k p f)

  -- `in` of a set kept by which members occur is a cell.
  in-a-view : {s a : Ex} {k : Kind} {m : Bool} → SetTerm cells r s k → Seen cells r a m →
      Made cells r true (member_by_cell (ex2 true Op2.Member a s))
  in-a-view (view n q (as_an_atom h c) p) f = tt
  in-a-view (view n q (by_occurrence k w h c) p) f = flag c (places-with k p f)
  in-a-view (view n q (with_a_dummy w h b e c) p) f = tt
  in-a-view (view n q (in_slots w e k) p) f = tt
  in-a-view (view n q (with_a_marker w e c k) p) f = tt
  in-a-view (view n q (with_flags w e c k) p) f = tt
  in-a-view (drawn h) f = tt
  in-a-view (combined o h k) f = tt

  -- A set of sets isn't kept so.
  in-a-view-of-sets : {s : Ex} (a : Ex) (j k : Kind) → SetTerm cells r s j → j ≡ sets_of k →
      Made cells r true (member_by_cell (ex2 true Op2.Member a s))
  in-a-view-of-sets a j k (view n q (as_an_atom h c) p) e = tt
  in-a-view-of-sets a j k (view {d = d} n q (by_occurrence i w h c) p) e = absurd (no-sets (sym (atom-kind (atom-form d h)) ∙ e))
  in-a-view-of-sets a j k (view n q (with_a_dummy w h b o c) p) e = tt
  in-a-view-of-sets a j k (view n q (in_slots w o i) p) e = tt
  in-a-view-of-sets a j k (view n q (with_a_marker w o c i) p) e = tt
  in-a-view-of-sets a j k (view n q (with_flags w o c i) p) e = tt
  in-a-view-of-sets a j k (drawn h) e = tt
  in-a-view-of-sets a j k (combined o h i) e = tt

  -- So the rule leaves a tree over views.
  pub member-at-a-cell : {e : Ex} {m : Bool} → Seen cells r e m → Made cells r m (member_by_cell e)
  member-at-a-cell (one denied f) = tt
  member-at-a-cell (two both f h) = tt
  member-at-a-cell (counted so_many) = tt
  member-at-a-cell (folded of_all k f) = tt
  member-at-a-cell (of_items of_all l) = tt
  member-at-a-cell (within f h) = in-a-view h f
  member-at-a-cell (set_within {k = k} {a = a} f h) = in-a-view-of-sets a (sets_of k) k h refl
  member-at-a-cell (compared alike f h) = tt
  member-at-a-cell f = tt

  -- ---- sizes

  no-marker : {x : Ex} {m : Bool} → Seen cells r x m → Made cells r false (size_by_marker (ex1 false Op1.Bar x))
  no-marker number = tt
  no-marker (counted so_many) = tt
  no-marker f = tt

  no-slots : {x : Ex} {m : Bool} (n : Ex) → Seen cells r x m → Made cells r false (size_by_slots n (ex1 false Op1.Bar x))
  no-slots n number = tt
  no-slots n (counted so_many) = tt
  no-slots n f = tt

  -- The size of a set in slots all in use is a number.
  in-slots : {s : Ex} {k : Kind} → SetTerm cells r s k →
      Made cells r false (size_by_slots (slots_of_operand (ex1 false Op1.Bar s)) (ex1 false Op1.Bar s))
  in-slots (view n q (as_an_atom h c) p) = tt
  in-slots (view n q (by_occurrence k w h c) p) = tt
  in-slots (view n q (with_a_dummy w h b e c) p) = tt
  in-slots (view n q (in_slots w e k) p) = counted e
  in-slots (view n q (with_a_marker w e c k) p) = tt
  in-slots (view n q (with_flags w e c k) p) = tt
  in-slots (drawn h) = tt
  in-slots (combined o h k) = tt

  -- So that rule leaves one.
  pub size-in-slots : {e : Ex} {m : Bool} → Seen cells r e m → Made cells r m (size_by_slots (slots_of_operand e) e)
  size-in-slots (one {x = x} absolute f) = no-slots (slots_of_operand (ex1 false Op1.Bar x)) f
  size-in-slots (two both f h) = tt
  size-in-slots (counted so_many) = tt
  size-in-slots (folded of_all k f) = tt
  size-in-slots (of_items of_all l) = tt
  size-in-slots (size h) = in-slots h
  size-in-slots f = tt

  -- That of a set with a marker is the marker.
  at-marker : {s : Ex} {k : Kind} → SetTerm cells r s k → Made cells r false (size_by_marker (ex1 false Op1.Bar s))
  at-marker (view n q (as_an_atom h c) p) = tt
  at-marker (view n q (by_occurrence k w h c) p) = tt
  at-marker (view n q (with_a_dummy w h b e c) p) = tt
  at-marker (view n q (in_slots w e k) p) = tt
  at-marker (view n q (with_a_marker w e c k) p) = figure c p
  at-marker (view n q (with_flags w e c k) p) = tt
  at-marker (drawn h) = tt
  at-marker (combined o h k) = tt

  -- So that rule leaves one.
  pub size-at-marker : {e : Ex} {m : Bool} → Seen cells r e m → Made cells r m (size_by_marker e)
  size-at-marker (one absolute f) = no-marker f
  size-at-marker (two both f h) = tt
  size-at-marker (counted so_many) = tt
  size-at-marker (folded of_all k f) = tt
  size-at-marker (of_items of_all l) = tt
  size-at-marker (size h) = at-marker h
  size-at-marker f = tt

  -- ---- a view of an atom is its cell

  -- So that rule leaves one.
  pub cell-of-atom : SeenTreesStayAmongMore → {e : Ex} {m : Bool} → Seen cells r e m → Made cells r m (atom_cell e)
  cell-of-atom more (atom {d = d} {js = js} {ks = ks} (as_an_atom h c) p) =
      cell-seen cells (is_bool_dom d) c p (more.indices cells r js ks p)
  cell-of-atom more (counted so_many) = tt
  cell-of-atom more f = tt

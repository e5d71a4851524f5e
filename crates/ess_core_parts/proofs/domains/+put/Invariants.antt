use Rattle.std.proofs.Common.{◌≡◌, ℕ, ◌++◌, ◌≤◌, length, take, drop, get_or}
use Rattle.ess_core.specs.declared.domains.Dom.{Dom}
use Rattle.ess_core.specs.declared.domains.FieldDom.{FieldDom}
use Rattle.ess_core_parts.specs.Numbered.{row, found}
use Rattle.ess_core_parts.specs.Parts.{parted_dom, parted_field_dom}
use Rattle.ess_core_parts.proofs.domains.+put.Given as goal

abbrev pub invariant-put_in_doms-loop-i : goal.invariant-put_in_doms-loop-i
invariant-put_in_doms-loop-i l =
    (found (row parted_dom l.initial.doms).parts l.k l.initial.new ≡ found (row parted_dom (drop l.i l.doms)).parts l.past l.new)
    × ((row parted_dom l.initial.doms).put l.k l.initial.new ≡ take l.i l.doms ++ (row parted_dom (drop l.i l.doms)).put l.past l.new)
    × (length l.doms ≡ length l.initial.doms)
    × ((k : ℕ) (d : Dom) → l.i ≤ k → get_or l.doms k d ≡ get_or l.initial.doms k d)

abbrev pub invariant-put_in_fields-loop-i : goal.invariant-put_in_fields-loop-i
invariant-put_in_fields-loop-i l =
    (found (row parted_field_dom l.initial.fields).parts l.k l.initial.new ≡ found (row parted_field_dom (drop l.i l.fields)).parts l.past l.new)
    × ((row parted_field_dom l.initial.fields).put l.k l.initial.new ≡ take l.i l.fields ++ (row parted_field_dom (drop l.i l.fields)).put l.past l.new)
    × (length l.fields ≡ length l.initial.fields)
    × ((k : ℕ) (d : FieldDom) → l.i ≤ k → get_or l.fields k d ≡ get_or l.initial.fields k d)

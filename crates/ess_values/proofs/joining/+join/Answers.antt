use Rattle.std.proofs.Common.{◌≡◌, sym, ap, ◌∙◌, true, false, map, option_map}
use Rattle.ess_values.specs.Shapes.{pure_shape, pure_shapes, pure_kind}
use Rattle.ess_semantics.specs.Order.{same_kind}
use Rattle.ess_semantics.specs.Types.{is_open}
use Rattle.ess_values.proofs.Joins.{node_left, node_right, node_each, nodes_of_one_kind}
use Rattle.ess_values.proofs.joining.+join.Goals as goal

pub join-returns-in_ok-join_nodes-in-Node-Node : goal.join-returns-in_ok-join_nodes-in-Node-Node
join-returns-in_ok-join_nodes-in-Node-Node t c =
    let n = c.in-Node-Node in
    let h : same_kind (pure_kind n.kind) (pure_kind n.other) ≡ true = sym c.same_kind.ensures ∙ c.if-same_kind.true in
    cc (nodes_of_one_kind n.kind n.other n.xs n.ys h, c.in_ok-join_nodes-in-Node-Node.ensures, c.as_slice.ensures, c.as_slice-then-same_kind.ensures)

pub join_nodes-returns-then-is_open : goal.join_nodes-returns-then-is_open
join_nodes-returns-then-is_open t c =
    let e : is_open (pure_kind c.args.kind.now) (pure_shapes c.args.xs.now) ≡ true = cc in
    rw (c.in_ok-new.ensures) (node_left _ _ c.args.xs.now c.args.ys.now _ e c.in_ok-copy.ensures c.in_ok-parts.ensures)

pub join_nodes-returns-then-is_open-2 : goal.join_nodes-returns-then-is_open-2
join_nodes-returns-then-is_open-2 t c =
    let d : is_open (pure_kind c.args.kind.now) (pure_shapes c.args.xs.now) ≡ false = cc in
    let e : is_open (pure_kind c.args.kind.now) (pure_shapes c.args.ys.now) ≡ true = cc in
    rw (c.in_ok-new-2.ensures) (node_right _ _ c.args.xs.now c.args.ys.now _ d e c.in_ok-copy-2.ensures c.in_ok-parts-2.ensures)

pub join_nodes-returns-in_ok-new-in-Some : goal.join_nodes-returns-in_ok-new-in-Some
join_nodes-returns-in_ok-new-in-Some t c =
    let d : is_open (pure_kind c.args.kind.now) (pure_shapes c.args.xs.now) ≡ false = cc in
    let e : is_open (pure_kind c.args.kind.now) (pure_shapes c.args.ys.now) ≡ false = cc in
    rw (c.in_ok-new-in-Some.ensures) (node_each _ _ c.args.xs.now c.args.ys.now _ d e (sym c.in_ok-parts-3.ensures ∙ ap (option_map (map pure_shape)) c.in-Some.is) c.in_ok-copy-in-Some.ensures)

use Rattle.std.proofs.Common.{◌≡◌, refl, rules, int_lt}
use Rattle.fixing.specs.Measures.{doubled, spread}
use Rattle.fixing.proofs.CrossSteps.{doubled_means, downwards, less_means, one_side, passed, spread_means, upwards}
use Rattle.fixing.proofs.measures.crosses.Goals as goal

pub returns-then-is_same : goal.returns-then-is_same
returns-then-is_same c =
    let ay : c.twice-ay.result ≡ doubled c.args.a.y = doubled_means c.twice-ay.result c.y.result c.args.a.y (search rules) c.twice-ay.ensures c.y.ensures.value in
    let by : c.twice-by.result ≡ doubled c.args.b.y = doubled_means c.twice-by.result c.y-2.result c.args.b.y (search rules) c.twice-by.ensures c.y-2.ensures.value in
    one_side c.is_same.result c.is_less.result c.is_less-2.result (int_lt c.args.place.1 (doubled c.args.a.y)) (int_lt c.args.place.1 (doubled c.args.b.y)) _ c.is_same.ensures
    (less_means c.args.place.1 (doubled c.args.a.y) _ _ c.is_less.result c.is_less.ensures (passed c.args.place.1 c.args.place.1 (search rules) refl) (passed c.twice-ay.result (doubled c.args.a.y) (search rules) ay))
    (less_means c.args.place.1 (doubled c.args.b.y) _ _ c.is_less-2.result c.is_less-2.ensures (passed c.args.place.1 c.args.place.1 (search rules) refl) (passed c.twice-by.result (doubled c.args.b.y) (search rules) by))
    c.if-is_same.true

pub returns-then-is_less : goal.returns-then-is_less
returns-then-is_less c =
    let x = passed c.args.place.0 c.args.place.0 (search rules) refl in
    let y = passed c.args.place.1 c.args.place.1 (search rules) refl in
    let ax = passed c.twice-ax.result (doubled c.args.a.x) (search rules) (doubled_means c.twice-ax.result c.x.result c.args.a.x (search rules) c.twice-ax.ensures c.x.ensures.value) in
    let ay = passed c.twice-ay.result (doubled c.args.a.y) (search rules) (doubled_means c.twice-ay.result c.y.result c.args.a.y (search rules) c.twice-ay.ensures c.y.ensures.value) in
    let bx = passed c.twice-bx.result (doubled c.args.b.x) (search rules) (doubled_means c.twice-bx.result c.x-2.result c.args.b.x (search rules) c.twice-bx.ensures c.x-2.ensures.value) in
    let by = passed c.twice-by.result (doubled c.args.b.y) (search rules) (doubled_means c.twice-by.result c.y-2.result c.args.b.y (search rules) c.twice-by.ensures c.y-2.ensures.value) in
    let across = passed c.spread-across.result (spread (doubled c.args.b.x) (doubled c.args.a.x) c.args.place.1 (doubled c.args.a.y)) (search rules)
    (spread_means c.spread-across.result _ _ _ _ (doubled c.args.b.x) (doubled c.args.a.x) c.args.place.1 (doubled c.args.a.y) c.spread-across.ensures bx ax y ay) in
    let along = passed c.spread-along.result (spread (doubled c.args.b.y) (doubled c.args.a.y) c.args.place.0 (doubled c.args.a.x)) (search rules)
    (spread_means c.spread-along.result _ _ _ _ (doubled c.args.b.y) (doubled c.args.a.y) c.args.place.0 (doubled c.args.a.x) c.spread-along.ensures by ay x ax) in
    upwards c.is_same.result c.is_less.result c.is_less-2.result (int_lt c.args.place.1 (doubled c.args.a.y)) (int_lt c.args.place.1 (doubled c.args.b.y)) c.is_less-3.result
    (int_lt (doubled c.args.a.y) (doubled c.args.b.y)) c.is_less-then-is_less.result
    (int_lt (spread (doubled c.args.b.y) (doubled c.args.a.y) c.args.place.0 (doubled c.args.a.x)) (spread (doubled c.args.b.x) (doubled c.args.a.x) c.args.place.1 (doubled c.args.a.y))) _
    c.is_same.ensures (less_means c.args.place.1 (doubled c.args.a.y) _ _ c.is_less.result c.is_less.ensures y ay)
    (less_means c.args.place.1 (doubled c.args.b.y) _ _ c.is_less-2.result c.is_less-2.ensures y by) c.if-is_same.false
    (less_means (doubled c.args.a.y) (doubled c.args.b.y) _ _ c.is_less-3.result c.is_less-3.ensures ay by) c.if-is_less.true
    (less_means _ _ _ _ c.is_less-then-is_less.result c.is_less-then-is_less.ensures along across)

pub returns-else-is_less : goal.returns-else-is_less
returns-else-is_less c =
    let x = passed c.args.place.0 c.args.place.0 (search rules) refl in
    let y = passed c.args.place.1 c.args.place.1 (search rules) refl in
    let ax = passed c.twice-ax.result (doubled c.args.a.x) (search rules) (doubled_means c.twice-ax.result c.x.result c.args.a.x (search rules) c.twice-ax.ensures c.x.ensures.value) in
    let ay = passed c.twice-ay.result (doubled c.args.a.y) (search rules) (doubled_means c.twice-ay.result c.y.result c.args.a.y (search rules) c.twice-ay.ensures c.y.ensures.value) in
    let bx = passed c.twice-bx.result (doubled c.args.b.x) (search rules) (doubled_means c.twice-bx.result c.x-2.result c.args.b.x (search rules) c.twice-bx.ensures c.x-2.ensures.value) in
    let by = passed c.twice-by.result (doubled c.args.b.y) (search rules) (doubled_means c.twice-by.result c.y-2.result c.args.b.y (search rules) c.twice-by.ensures c.y-2.ensures.value) in
    let across = passed c.spread-across.result (spread (doubled c.args.b.x) (doubled c.args.a.x) c.args.place.1 (doubled c.args.a.y)) (search rules)
    (spread_means c.spread-across.result _ _ _ _ (doubled c.args.b.x) (doubled c.args.a.x) c.args.place.1 (doubled c.args.a.y) c.spread-across.ensures bx ax y ay) in
    let along = passed c.spread-along.result (spread (doubled c.args.b.y) (doubled c.args.a.y) c.args.place.0 (doubled c.args.a.x)) (search rules)
    (spread_means c.spread-along.result _ _ _ _ (doubled c.args.b.y) (doubled c.args.a.y) c.args.place.0 (doubled c.args.a.x) c.spread-along.ensures by ay x ax) in
    downwards c.is_same.result c.is_less.result c.is_less-2.result (int_lt c.args.place.1 (doubled c.args.a.y)) (int_lt c.args.place.1 (doubled c.args.b.y)) c.is_less-3.result
    (int_lt (doubled c.args.a.y) (doubled c.args.b.y)) c.is_less-else-is_less.result
    _ (int_lt (spread (doubled c.args.b.x) (doubled c.args.a.x) c.args.place.1 (doubled c.args.a.y)) (spread (doubled c.args.b.y) (doubled c.args.a.y) c.args.place.0 (doubled c.args.a.x)))
    c.is_same.ensures (less_means c.args.place.1 (doubled c.args.a.y) _ _ c.is_less.result c.is_less.ensures y ay)
    (less_means c.args.place.1 (doubled c.args.b.y) _ _ c.is_less-2.result c.is_less-2.ensures y by) c.if-is_same.false
    (less_means (doubled c.args.a.y) (doubled c.args.b.y) _ _ c.is_less-3.result c.is_less-3.ensures ay by) c.if-is_less.false
    (less_means _ _ _ _ c.is_less-else-is_less.result c.is_less-else-is_less.ensures across along)

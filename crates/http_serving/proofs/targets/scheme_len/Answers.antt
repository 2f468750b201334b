use Rattle.std.proofs.Common.{arith, rules, ◌≤◌, length}
use Rattle.std.proofs.lemmas.List.Sums.{prefix_len-le-length}
use Rattle.http_serving.specs.Targets.{is_scheme_byte}
use Rattle.http_serving.proofs.targets.scheme_len.Goals as goal

pub slice_bounds-begins_with_separator-count : goal.slice_bounds-begins_with_separator-count
slice_bounds-begins_with_separator-count c = omega (arith, prefix_len-le-length is_scheme_byte c.args.target.now)

pub slice_bounds-begins_with_separator-start : goal.slice_bounds-begins_with_separator-start
slice_bounds-begins_with_separator-start c =
    let within : c.count_scheme_bytes-len.result ≤ length c.args.target.now = omega (arith, prefix_len-le-length is_scheme_byte c.args.target.now) in
    search rules

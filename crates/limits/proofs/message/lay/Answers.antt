-- `limits::message::lay` meets its contract.
-- Assumes nothing.
use mathlib.Core.Path.{◌∙◌, ap}
use mathlib.Core.List.{List}
use Prim.Native.Nat.{ℕ, ◌+◌}
use Rattle.chunks.specs.Piece.{piece_at}
use Rattle.item.specs.Offsets.{at_previous, at_dependencies}
use Rattle.limits.specs.Laid.{bytes_put, ids_put, sizes_put, author_put}
use Rattle.std.proofs.Common.{rules}
use Rattle.limits.proofs.message.lay.Goals as goal

pub returns : goal.returns
returns c =
    let a = c.args in
    record {
      bytes =
          c.put_ids.ensures
          ∙ ap (λ (x : List ℕ). ids_put x (at_dependencies + a.payload) a.ids.now a.count)
          (c.put_id.ensures
          ∙ ap (λ (x : List ℕ). bytes_put x at_previous (piece_at a.ids.now a.previous))
          (c.put_author.ensures
          ∙ ap (λ (x : List ℕ). author_put x a.author a.index)
          (c.put_sizes.ensures
          ∙ ap (λ (x : List ℕ). sizes_put x a.payload a.count) c.clear.ensures)));
      size = search rules;
      inside = search rules;
    }

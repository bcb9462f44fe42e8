use Rattle.std.proofs.Common.{◌≡◌, ℕ, ◌+◌, ◌≤◌, List, ◌++◌, length, take, refl, sym, ap, ◌∙◌, ap₂, arith, rules}
use Rattle.std.proofs.Math.Seq.{take-length}
use Rattle.std.proofs.lemmas.Slice.{take-put_mid}
use Rattle.bintree.specs.Orders.{end}
use Rattle.bintree.specs.Triangles.{corners}
use Rattle.mesh.specs.Sets.{listed, members}
use Rattle.mesh.specs.IndexList.{vertices, all_vertices, index_list}
use Rattle.mesh.specs.Views.{order_of, triangles_of}
use Rattle.mesh.proofs.Listing.{count_in, count_out, count_bound, count_grows, count_members, members_out, list_more}
use Rattle.mesh.proofs.mesh.Mesh.write_list.Goals as goal

pub overflow_add-at : goal.overflow_add-at
overflow_add-at c = omega (arith, count_bound (triangles_of c.args.self.now) c.loop-i.i, c.loop-i.invariant.so_far, c.end-i-end.ensures.bound)

pub offset_bounds-places-at : goal.offset_bounds-places-at
offset_bounds-places-at c = omega (arith, count_bound (triangles_of c.args.self.now) c.loop-i.i, c.loop-i.invariant.so_far, c.end-i-end.ensures.bound)

pub slice_bounds-copy_from_slice-end : goal.slice_bounds-copy_from_slice-end
slice_bounds-copy_from_slice-end c =
    let n = order_of c.args.self.now in
    let P = triangles_of c.args.self.now in
    let i = c.loop-i.i in
    let more : length (members P (i + 1)) ≤ length (members P (end n)) = count_grows P (i + 1) (end n) (omega (arith, c.end-i-end.ensures.value)) in
    let h : c.loop-i.at + 3 ≤ length c.loop-i.places = omega (arith, count_in P i c.in-Some.ensures.0, more, count_members n P, c.requires, c.loop-i.invariant.so_far) in
    search rules

pub loop-i-preserved : goal.loop-i-preserved
loop-i-preserved c =
    let n = order_of c.args.self.now in
    let P = triangles_of c.args.self.now in
    let i = c.loop-i.i in
    let more = count_grows P i (end n) (omega (arith, c.end-i-end.ensures.value)) in
    let fits : c.loop-i.at ≤ length c.loop-i.places = omega (arith, more, count_members n P, c.requires, c.loop-i.invariant.so_far) in
    elim c.match-triangle.branch [
      | goal.in-Some w ↦
          let q = w.in-Some.ensures in
          let wrote : w.copy_from_slice.new.self ≡ vertices n (corners n i) = w.copy_from_slice.ensures.after ∙ (w.vertices.ensures ∙ ap₂ (λ (m j : ℕ). vertices m (corners m j)) q.1.0 q.1.1) in
          record {
            so_far = omega (arith, w.at-is, count_in P i q.0, c.loop-i.invariant.so_far);
            written = rw (w.at-is, w.places-is, wrote) (take-put_mid c.loop-i.at _ c.loop-i.places (vertices n (corners n i)) (c.loop-i.at + 3) refl fits ∙ (ap (λ (l : List ℕ). l ++ vertices n (corners n i)) c.loop-i.invariant.written ∙ sym (list_more n P i q.0)));
          }
      | goal.in_default w ↦ record {
        so_far = omega (arith, w.at-is, count_out P i w.in_default.ensures, c.loop-i.invariant.so_far);
        written = rw (w.at-is, w.places-is, members_out P i w.in_default.ensures) c.loop-i.invariant.written;
      }
    ]

pub returns : goal.returns
unfolding listed index_list
returns c =
    let n = order_of c.args.self.now in
    let P = triangles_of c.args.self.now in
    let last : c.loop-i.i ≡ end n = omega (arith, c.end-i-end.ensures.value) in
    let all = rw last at c.loop-i.invariant.so_far in
    let e : c.loop-i.at ≡ length c.loop-i.places = omega (arith, all, count_members n P) in
    sym (take-length c.loop-i.places) ∙ (ap (λ (k : ℕ). take k c.loop-i.places) (sym e) ∙ (c.loop-i.invariant.written ∙ ap (λ (b : ℕ). all_vertices n (members P b)) last))

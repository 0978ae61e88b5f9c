-- `write_path` meets its contract: what is read is what is written.
use native.Mathlib.Omega.{arith}
use Rattle.mapping.proofs.PathsWritten.{path_few, links_size, path_inside, path_room, path_written, paths_stay}
use Rattle.mapping.proofs.paths.write_path.Goals as goal

pub read_path-count-requires : goal.read_path-count-requires
read_path-count-requires c =
    c.requires.read

pub overflow_mul-ids_at : goal.overflow_mul-ids_at
overflow_mul-ids_at c =
    omega (arith, c.requires.read.small)

pub overflow_add-ids_at : goal.overflow_add-ids_at
overflow_add-ids_at c =
    let a = c.args in
    omega (arith, c.requires.read.small, c.read_path-count.ensures.count, path_few a.numbers.inputs a.numbers.nodes a.links.now a.i)

pub slice_bounds-put_path-end : goal.slice_bounds-put_path-end
slice_bounds-put_path-end c = path_inside c.requires c.read_path-count.ensures

pub put_path-requires : goal.put_path-requires
put_path-requires c =
    path_room c.requires c.read_path-count.ensures

pub shape_of-links : goal.shape_of-links
shape_of-links c =
    links_size c.requires c.read_path-count.ensures

pub returns : goal.returns
returns c =
    record { written = path_written c.requires c.read_path-count.ensures c.put_path.ensures; links_unchanged = paths_stay c.requires c.read_path-count.ensures }

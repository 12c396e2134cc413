-- What a slot owns, into which a handle is written.
use base.Fml.{Fml, ftrue}
use denote.RawPtr.{Ptr}
use Rattle.std.specs.Prelude.{Option, None, Some}
use Rattle.std.specs.Box.Ownership.{box_owns}
use Rattle.std.specs.declared.alloc.Global.{Global}
use Rattle.std.specs.contracts.impls.GlobalAllocator.TheImpl.{ghosts}
use Rattle.odb_live.specs.declared.run.LiveRun.{LiveRun}
use Rattle.odb_live.specs.contracts.run.LiveRun.{the_row}

-- the box of the live run at an address, if there is one
abbrev pub owns_box : Global → Ptr → Option LiveRun → Fml
owns_box alloc at None = ftrue
owns_box alloc at (Some live) = box_owns (ghosts.dealloc_token alloc) the_row at live

-- A handle whose live run changes.
use Rattle.odb_live.specs.declared.run.LiveRun.{LiveRun}
use Rattle.odb_ffi.specs.declared.handle.Handle.{Handle}

-- the handle with another live run at its address
abbrev pub with_live : Handle → LiveRun → Handle
with_live handle live = record handle { value = live }

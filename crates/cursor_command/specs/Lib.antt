pub mod CursorCommand

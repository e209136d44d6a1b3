-- What is answered to lines as they come, and the state that they leave.
pub mod ServeAnswer
-- What a store has, as `?` asks it.
pub mod StoreText
-- Laws: how an input is cut, and what is served of a text that could be run.
pub mod ServeLaws
-- The steps between reading and writing.
pub mod ServiceKept

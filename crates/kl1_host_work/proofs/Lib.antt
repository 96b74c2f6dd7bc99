pub mod Linkages
pub mod Lobbies
pub mod NamesInOrder
pub mod Notices
pub mod OpenedByName
pub mod OwnHistories
pub mod Restarts

mod RoomFacts
mod EscapeFacts
